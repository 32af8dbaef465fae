-- Where four independent points stay, no edit is flat.
use Rattle.std.specs.Prelude.{◌≡◌, ◌≢◌, ℕ, Bool, true, false, cond, List, [], ◌∷◌}
use Rattle.std.proofs.Common.{refl, sym, ◌∙◌, ap, subst, inl, inr}
use Rattle.point_order.specs.Sets.{IsIn, is_among, with_point, without_point}
use Rattle.point_order.specs.Solid.{is_solid}
use Rattle.point_order.proofs.Cited.{in_with_old}
use Rattle.edit_history.specs.declared.history.Edit.{Edit}
use Rattle.edit_history.specs.declared.history.Edit.TheVariants.{Add, Take, Move}
use Rattle.edit_history.specs.declared.history.Reply.{Reply}
use Rattle.edit_history.specs.declared.history.Reply.TheVariants.{Inserted, Duplicate, Removed, Missing, Flat, Moved}
use Rattle.edit_history.specs.declared.history.Reply.TheVariants.{Occupied}
use Rattle.edit_history.specs.Edits.{after, arrived, changed, moved_to, reply_to}
use Rattle.edit_history.proofs.Cited.{added_old, solid_from}
use Rattle.part_edits.specs.Made.{Made}
use Rattle.part_edits.specs.Rounds.{AreWitnesses}
use Rattle.part_edits.proofs.Known.{in_without_other}

-- the reply is not flat
abbrev not_flat : Reply → Bool
not_flat Inserted = true
not_flat Duplicate = true
not_flat Removed = true
not_flat Missing = true
not_flat Flat = false
not_flat Moved = true
not_flat Occupied = true

-- a reply that passes the test is not Flat
sound : (r : Reply) → not_flat r ≡ true → r ≢ Flat
sound r e f = let g : false ≡ true = sym (ap not_flat f) ∙ e in cc

-- the reply to an add is never Flat
add_not_flat : (s : List ℕ) (p : ℕ) → reply_to s (Add p) ≢ Flat
add_not_flat s p = sound (reply_to s (Add p)) (by (is_among p s))
  where
    by : (b : Bool) → not_flat (cond b Duplicate Inserted) ≡ true
    by true = refl
    by false = refl

-- the set has all of the points
abbrev pub HasAll : List ℕ → List ℕ → Type 0
HasAll four s = (q : ℕ) → IsIn q four → IsIn q s

-- a set that has them is solid
abbrev pub MakeSolid : List ℕ → Type 0
MakeSolid four = (s : List ℕ) → HasAll four s → is_solid s ≡ true

-- the edit takes none of them, and moves none elsewhere
abbrev pub Spares : List ℕ → Edit → Type 0
Spares four edit = (q : ℕ) → IsIn q four → (edit ≢ Take q) × ((b : ℕ) → edit ≢ Move q b)

module _ (four : List ℕ) (solid : MakeSolid four) where
  -- an edit that spares them is not flat where all of them are there, and leaves all of them
  pub spared : (s : List ℕ) (edit : Edit) → HasAll four s → Spares four edit →
      (reply_to s edit ≢ Flat) × HasAll four (after s edit)
  spared s (Add p) h n = (add_not_flat s p, λ q i. added_old s p q (h q i))
  spared s (Take p) h n = by (is_among p s) (is_solid (without_point p s)) (solid (without_point p s) rest)
    where
      rest : HasAll four (without_point p s)
      rest q i = in_without_other p q s (λ e. (n q i).0 (ap Take e)) (h q i)

      by : (b c : Bool) → c ≡ true → (cond b (cond c Removed Flat) Missing ≢ Flat)
          × HasAll four (changed s p (cond b (cond c Removed Flat) Missing))
      by true true e = (sound Removed refl, rest)
      by true false e = cc
      by false c e = (sound Missing refl, h)
  spared s (Move a b) h n = by (is_among a s) (is_among b s) (is_solid (moved_to a b s)) (solid (moved_to a b s) rest)
    where
      rest : HasAll four (moved_to a b s)
      rest q i =
          in_without_other a q (with_point b s) (λ e. (n q i).1 b (ap (λ (x : ℕ). Move x b) e))
          (in_with_old b q s (h q i))

      by : (x y z : Bool) → z ≡ true → (cond x (cond y Occupied (cond z Moved Flat)) Missing ≢ Flat)
          × HasAll four (changed (arrived s (Move a b) (cond x (cond y Occupied (cond z Moved Flat)) Missing)) a
          (cond x (cond y Occupied (cond z Moved Flat)) Missing))
      by true true z e = (sound Occupied refl, h)
      by true false true e = (sound Moved refl, rest)
      by true false false e = cc
      by false y z e = (sound Missing refl, h)

-- witnesses make a set solid
pub witnesses_solid : (s : List ℕ) (made : List Made) (four : List ℕ) → AreWitnesses s made four → MakeSolid four
witnesses_solid s made four w t h =
    let at : (q : ℕ) → IsIn q (w.a ∷ w.b ∷ w.c ∷ w.d ∷ []) → IsIn q t =
    λ q i. h q (subst (λ (l : List ℕ). IsIn q l) (sym w.four_are) i) in
    solid_from t w.a w.b w.c w.d (at w.a (inl refl)) (at w.b (inr (inl refl))) (at w.c (inr (inr (inl refl))))
    (at w.d (inr (inr (inr (inl refl))))) w.independent

-- and each line spares them
pub witnesses_spared : (s : List ℕ) (made : List Made) (four : List ℕ) → AreWitnesses s made four → (m : Made) →
    IsIn m made → Spares four m.0.1
witnesses_spared s made four w m i q j = (w.untaken m q i j, λ b. w.unmoved m q b i j)
