-- The first flaw of a triple by the first point off its plane.
use Rattle.std.specs.Prelude.{◌≡◌, ◌≢◌, refl, ℕ, ℤ, pos, Bool, true, false, not, ◌&&◌, ◌||◌, List, [], ◌∷◌, ◌⊎◌, None}
use Rattle.std.specs.Prelude.{Some, if◌then◌else◌}
use Rattle.std.specs.Int.Signed.{lt_z}
use Rattle.std.specs.List.{find, list_any}
use Rattle.std.proofs.Common.{arith, inl, inr, ap, sym, subst}
use Rattle.std.proofs.lemmas.Option.{none-some}
use Rattle.std.proofs.lemmas.Bool.Decides.{nat_tests}
use Rattle.list_laws.proofs.Cited.{any_from, any_true, false_if, not_both, one_true, first_true as first_of_two}
use Rattle.list_laws.proofs.Cited.{second_true}
use Rattle.point_order.specs.declared.cell.Cell.TheVariants.{Open}
use Rattle.point_order.specs.Orientation.{orientation, is_flat, is_zero, is_collinear}
use Rattle.point_order.specs.Conflicts.{are_opposite}
use Rattle.point_order.specs.Sets.{IsIn, AreThree, AreFive, is_among}
use Rattle.point_order.proofs.Cited.{last_first, last_second, last_third, zero_true}
use Rattle.mesh_check.specs.declared.flaw.Flaw.TheVariants.{Sides}
use Rattle.mesh_check.specs.Flaws.{is_inside, is_inside_with, sides_of, inside_with, inside_of, flaw_of}
use Rattle.mesh_check.proofs.Flaws.{found, none_found, finds_none, find_same}

-- ---- five points

-- a point in a plane is none off it
off_differs : (a b c f v : ℕ) → is_flat a b c f ≡ false → is_flat a b c v ≡ true → v ≢ f
off_differs a b c f v n z e = not_both (is_flat a b c f) (subst (λ x. is_flat a b c x ≡ true) e z) n

-- three points, one off their plane and one in it that is none of them are five
pub five : (a b c f p : ℕ) → AreThree a b c → is_flat a b c f ≡ false → p ≢ a → p ≢ b → p ≢ c → is_flat a b c p ≡ true →
    AreFive a b c f p
five a b c f p n off ea eb ec z = (
  n.0,
  n.1,
  off_differs a b c f a off (zero_true (orientation a b c a) (last_first a b c)),
  (λ q. ea (sym q)),
  n.2,
  off_differs a b c f b off (zero_true (orientation a b c b) (last_second a b c)),
  (λ q. eb (sym q)),
  off_differs a b c f c off (zero_true (orientation a b c c) (last_third a b c)),
  (λ q. ec (sym q)),
  (λ q. off_differs a b c f p off z (sym q)),
)

-- the same, by the tests
pub five_off : (a b c f p : ℕ) → AreThree a b c → is_flat a b c f ≡ false → is_among p (a ∷ b ∷ c ∷ []) ≡ false →
    is_flat a b c p ≡ true → AreFive a b c f p
five_off a b c f p n off h g =
    let na : p ≢ a = grind (arith, nat_tests) in
    let nb : p ≢ b = grind (arith, nat_tests) in
    let nc : p ≢ c = grind (arith, nat_tests) in
    five a b c f p n off na nb nc g

-- ---- searches

-- a stricter search finds what the other found first, where it passes
find_narrow : {X : Type 0} (p q : X → Bool) (s : List X) (e : X) → find q s ≡ Some e →
    ((x : X) → IsIn x s → p x ≡ true → q x ≡ true) → p e ≡ true → find p s ≡ Some e
find_narrow p q [] e f g t = absurd (none-some e f)
find_narrow {X} p q (y ∷ s) e f g t = go (p y) (q y) refl refl f (λ h. find_narrow p q s e h (λ x m. g x (inr m)) t)
  where
    -- by both tests of the first
    go : (b d : Bool) → p y ≡ b → q y ≡ d → (if d then Some y else find q s) ≡ Some e →
        (find q s ≡ Some e → find p s ≡ Some e) → (if b then Some y else find p s) ≡ Some e
    go true true u v h r = h
    go true false u v h r = absurd (not_both (q y) (g y (inl refl) u) v)
    go false true u v h r = absurd (not_both (p y) (subst (λ x. p x ≡ true) (sym (cc_some h)) t) u)
      where
        -- what is there is one
        cc_some : Some y ≡ Some e → y ≡ e
        cc_some k = cc
    go false false u v h r = r h

-- ---- opposite sides

-- signs of two tests
signs : (p q r t : Bool) → ((p && q) || (r && t)) ≡ true → ((p ≡ true) × (q ≡ true)) ⊎ ((r ≡ true) × (t ≡ true))
signs p q r t e = elim (one_true (p && q) (r && t) e)
    [ inl u ↦ inl (first_of_two p q u, second_true p q u) | inr u ↦ inr (first_of_two r t u, second_true r t u) ]

-- a point with a sign is off the plane
high_off : (z : ℤ) → lt_z (pos 0) z ≡ true → not (is_zero z) ≡ true
high_off z e = go (lt_z (pos 0) z) (lt_z z (pos 0)) e
  where
    -- of the two tests
    go : (p q : Bool) → p ≡ true → not (not p && not q) ≡ true
    go true q h = refl
    go false q h = cc

-- the same below
low_off : (z : ℤ) → lt_z z (pos 0) ≡ true → not (is_zero z) ≡ true
low_off z e = go (lt_z (pos 0) z) (lt_z z (pos 0)) e
  where
    -- of the two tests
    go : (p q : Bool) → q ≡ true → not (not p && not q) ≡ true
    go true q h = refl
    go false true h = refl
    go false false h = cc

-- a point off the plane has a sign
signed : (z : ℤ) → not (is_zero z) ≡ true → (lt_z (pos 0) z ≡ true) ⊎ (lt_z z (pos 0) ≡ true)
signed z e = go (lt_z (pos 0) z) (lt_z z (pos 0)) e
  where
    -- of the two tests
    go : (p q : Bool) → not (not p && not q) ≡ true → (p ≡ true) ⊎ (q ≡ true)
    go true q h = inl refl
    go false true h = inr refl
    go false false h = cc

-- either sign
both_of : (p q r t : Bool) → p ≡ true → q ≡ true → ((p && q) || (r && t)) ≡ true
both_of p q r t e f = cc

-- or the other
others_of : (p q r t : Bool) → r ≡ true → t ≡ true → ((p && q) || (r && t)) ≡ true
others_of true true r t e f = refl
others_of true false r t e f = cc
others_of false q r t e f = cc

module _ (s : List ℕ) (a b c : ℕ) where
  -- the test of a point opposite
  abbrev opp : ℕ → ℕ → Bool
  opp e f = are_opposite a b c e f

  -- a point that has one opposite is off the plane
  opposite_off : (e f : ℕ) → opp e f ≡ true → not (is_flat a b c e) ≡ true
  opposite_off e f t = elim (signs (lt_z (pos 0) (orientation a b c e)) (lt_z (orientation a b c f) (pos 0))
      (lt_z (orientation a b c e) (pos 0)) (lt_z (pos 0) (orientation a b c f)) t) [
        | inl u ↦ high_off (orientation a b c e) u.0
        | inr u ↦ low_off (orientation a b c e) u.0
      ]

  -- of two that are opposite one is opposite any point off the plane
  one_opposite : (e x y : ℕ) → not (is_flat a b c e) ≡ true → opp x y ≡ true → (opp e x ≡ true) ⊎ (opp e y ≡ true)
  one_opposite e x y n t =
      let ue = lt_z (pos 0) (orientation a b c e) in
      let de = lt_z (orientation a b c e) (pos 0) in
      let ux = lt_z (pos 0) (orientation a b c x) in
      let dx = lt_z (orientation a b c x) (pos 0) in
      let uy = lt_z (pos 0) (orientation a b c y) in
      let dy = lt_z (orientation a b c y) (pos 0) in
      elim (signs ux dy dx uy t) [
        | inl u ↦ elim (signed (orientation a b c e) n)
            [ inl v ↦ inr (both_of ue dy de uy v u.1) | inr v ↦ inl (others_of ue dx de ux v u.0) ]
        | inr u ↦ elim (signed (orientation a b c e) n)
            [ inl v ↦ inl (both_of ue dx de ux v u.0) | inr v ↦ inr (others_of ue dy de uy v u.1) ]
      ]

  -- no flaw, where all points are in the plane
  pub flaw_none : is_collinear a b c ≡ false → find (λ f. not (is_flat a b c f)) s ≡ None →
      flaw_of s (Open (a ∷ b ∷ c ∷ [])) ≡ None
  flaw_none u n = rw (u, sides, inside) refl
    where
      -- no points are opposite
      apart : (e : ℕ) → IsIn e s → list_any (λ f. opp e f) s ≡ false
      apart e m = false_if (list_any (λ f. opp e f) s)
          (λ t. (let r = any_from (λ f. opp e f) s t in
          not_both (not (is_flat a b c e)) (opposite_off e r.0 r.2) (none_found (λ f. not (is_flat a b c f)) s n e m)))

      -- so none are found
      sides : sides_of s (Open (a ∷ b ∷ c ∷ [])) ≡ None
      sides = rw (finds_none (λ e. list_any (λ f. opp e f) s) s apart) refl

      -- none is inside
      inside : inside_of s (Open (a ∷ b ∷ c ∷ [])) ≡ None
      inside = rw (finds_none (is_inside s (Open (a ∷ b ∷ c ∷ []))) s (λ p m. ap (is_inside_with a b c p) n)) refl

  -- points on both sides
  pub flaw_sides : (e f : ℕ) → is_collinear a b c ≡ false → find (λ f. not (is_flat a b c f)) s ≡ Some e →
      find (λ f. opp e f) s ≡ Some f → flaw_of s (Open (a ∷ b ∷ c ∷ [])) ≡ Some (Sides (a ∷ b ∷ c ∷ []) e f)
  flaw_sides e f u n o = rw (u, first, o) refl
    where
      -- the first point with one opposite
      first : find (λ e. list_any (λ f. opp e f) s) s ≡ Some e
      first =
          let r = found (λ f. opp e f) s f o in
          find_narrow (λ e. list_any (λ f. opp e f) s) (λ f. not (is_flat a b c f)) s e n
          (λ x m t. (let h = any_from (λ f. opp x f) s t in opposite_off x h.0 h.2))
          (any_true (λ f. opp e f) s f r.0 r.1)

  -- points on one side
  pub flaw_inside : (e : ℕ) → is_collinear a b c ≡ false → find (λ f. not (is_flat a b c f)) s ≡ Some e →
      find (λ f. opp e f) s ≡ None → flaw_of s (Open (a ∷ b ∷ c ∷ [])) ≡ inside_with (Open (a ∷ b ∷ c ∷ []))
      (find (λ p. is_inside_with a b c p (Some e)) s)
  flaw_inside e u n o = rw (u, sides, inside) refl
    where
      -- no points are opposite
      apart : (x : ℕ) → IsIn x s → list_any (λ f. opp x f) s ≡ false
      apart x m = false_if (list_any (λ f. opp x f) s) (λ t. (
          let r = any_from (λ f. opp x f) s t in
          elim (one_opposite e x r.0 (found (λ f. not (is_flat a b c f)) s e n).1 r.2) [
            | inl h ↦ not_both (opp e x) h (none_found (λ f. opp e f) s o x m)
            | inr h ↦ not_both (opp e r.0) h (none_found (λ f. opp e f) s o r.0 r.1)
          ]))

      -- so none are found
      sides : sides_of s (Open (a ∷ b ∷ c ∷ [])) ≡ None
      sides = rw (finds_none (λ e. list_any (λ f. opp e f) s) s apart) refl

      -- with that point off the plane
      inside : inside_of s (Open (a ∷ b ∷ c ∷ [])) ≡ inside_with (Open (a ∷ b ∷ c ∷ []))
          (find (λ p. is_inside_with a b c p (Some e)) s)
      inside = ap (inside_with (Open (a ∷ b ∷ c ∷ [])))
          (find_same (is_inside s (Open (a ∷ b ∷ c ∷ []))) (λ p. is_inside_with a b c p (Some e)) s
          (λ p m. ap (is_inside_with a b c p) n))
