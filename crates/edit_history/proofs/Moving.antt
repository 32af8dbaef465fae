-- What a move answers and leaves.
use Rattle.std.specs.Prelude.{◌≡◌, ℕ, Bool, true, false, cond, not, ◌==◌, List, ◌∷◌, ◌⊎◌}
use Rattle.std.specs.List.{remove}
use Rattle.std.proofs.Common.{refl, sym, ◌∙◌, ap, subst, inl, inr}
use Rattle.std.proofs.lemmas.Bool.{ne_eqb}
use Rattle.list_laws.proofs.Cited.{among_from, among_true, false_if, filtered_true, in_filtered, passes, same_members}
use Rattle.point_order.specs.Coordinates.{IsKey}
use Rattle.point_order.specs.Sets.{IsIn, IsAscending, is_among, with_point, without_point}
use Rattle.point_order.specs.Solid.{is_solid}
use Rattle.point_order.proofs.Cited.{ascending_with, in_with, in_with_new, in_with_old}
use Rattle.edit_history.specs.declared.history.Edit.{Edit}
use Rattle.edit_history.specs.declared.history.Edit.TheVariants.{Add, Take, Move}
use Rattle.edit_history.specs.declared.history.Reply.{Reply}
use Rattle.edit_history.specs.declared.history.Reply.TheVariants.{Missing, Flat, Moved, Occupied}
use Rattle.edit_history.specs.Edits.{HasKeys, is_move, moved_to, point_of, reply_to, arrived, changed, after}
use Rattle.edit_history.proofs.SetEdits.{ascending_without}
use Rattle.edit_history.proofs.Solidity.{solid_same}

-- a place where a point is and one where none is differ
pub places_differ : (a b : ℕ) (s : List ℕ) → is_among a s ≡ true → is_among b s ≡ false → (b == a) ≡ false
places_differ a b s e f = ne_eqb b a (λ q. let g = ap (λ x. is_among x s) q in cc)

-- the points of the set with b and without a
in_moved : (a b p : ℕ) (s : List ℕ) → (b == a) ≡ false → (b ≡ p) ⊎ IsIn p (without_point a s) → IsIn p (moved_to a b s)
in_moved a b p s n (inl e) =
    filtered_true (λ q. not (q == a)) (with_point b s) p (subst (λ (x : ℕ). IsIn x (with_point b s)) e
    (in_with_new b s))
    (subst (λ (x : ℕ). not (x == a) ≡ true) e (ap not n))
in_moved a b p s n (inr i) =
    filtered_true (λ q. not (q == a)) (with_point b s) p (in_with_old b p s (in_filtered (λ q. not (q == a)) s p i))
    (passes (λ q. not (q == a)) s p i)

-- and no other: each is b, or is of the set without a
from_moved : (a b p : ℕ) (s : List ℕ) → IsIn p (moved_to a b s) → (b ≡ p) ⊎ IsIn p (without_point a s)
from_moved a b p s i =
    elim (in_with b p s (in_filtered (λ q. not (q == a)) (with_point b s) p i)) [
      | inl e ↦ inl e
      | inr j ↦ inr (filtered_true (λ q. not (q == a)) s p j (passes (λ q. not (q == a)) (with_point b s) p i))
    ]

-- whether it is solid, found from the set without a, and b before it
pub solid_moved : (a b : ℕ) (s : List ℕ) → (b == a) ≡ false → is_solid (b ∷ without_point a s) ≡ is_solid
    (moved_to a b s)
solid_moved a b s n = solid_same (b ∷ without_point a s) (moved_to a b s) (λ p i. in_moved a b p s n i)
    (λ p i. from_moved a b p s i)

-- the point is taken out first, or put in first
pub moved_either : (a b : ℕ) (s : List ℕ) → IsAscending s → (b == a) ≡ false →
    with_point b (without_point a s) ≡ moved_to a b s
moved_either a b s h n =
    same_members (with_point b (without_point a s)) (moved_to a b s)
    (ascending_with b (without_point a s) (ascending_without a s h))
    (ascending_without a (with_point b s) (ascending_with b s h))
    (λ p i. in_moved a b p s n (in_with b p (without_point a s) i))
    (λ p i. elim (from_moved a b p s i) [
      | inl e ↦ subst (λ (x : ℕ). IsIn x (with_point b (without_point a s))) e
          (in_with_new b (without_point a s))
      | inr j ↦ in_with_old b p (without_point a s) j
    ])

-- a point that is not there is not there without another
pub absent_removed : (a b i : ℕ) (s t : List ℕ) → t ≡ s → remove t i ≡ without_point a t → is_among b s ≡ false →
    is_among b (remove s i) ≡ false
absent_removed a b i s t e f g =
    let r : remove s i ≡ without_point a s = sym (ap (λ (l : List ℕ). remove l i) e) ∙ f ∙ ap (without_point a) e in
    ap (is_among b) r ∙ false_if (is_among b (without_point a s)) (λ h. let k =
    among_true b s (in_filtered (λ q. not (q == a)) s b (among_from b (without_point a s) h)) in cc)

-- ---- replies

-- where the point has moved, it was there, its new place was free, and the set is solid
pub record HasMoved (a b : ℕ) (s : List ℕ) : Type 0 where
  pub there : is_among a s ≡ true
  pub free : is_among b s ≡ false
  pub solid : is_solid (moved_to a b s) ≡ true

-- a move with the reply Moved is of that kind
pub has_moved : (a b : ℕ) (s : List ℕ) → reply_to s (Move a b) ≡ Moved → HasMoved a b s
has_moved a b s e = by (is_among a s) (is_among b s) (is_solid (moved_to a b s)) refl refl refl e
  where
    by : (x y z : Bool) → is_among a s ≡ x → is_among b s ≡ y → is_solid (moved_to a b s) ≡ z →
        cond x (cond y Occupied (cond z Moved Flat)) Missing ≡ Moved → HasMoved a b s
    by true false true f g h e = record { there = f; free = g; solid = h }
    by true false false f g h e = absurd cc
    by true true z f g h e = absurd cc
    by false y z f g h e = absurd cc

-- and it is
pub does_move : (a b : ℕ) (s : List ℕ) → HasMoved a b s → reply_to s (Move a b) ≡ Moved
does_move a b s h = rw (h.there, h.free, h.solid) refl

-- or it stays, where the set would not be solid
pub does_not_move : (a b : ℕ) (s : List ℕ) → is_among a s ≡ true → is_among b s ≡ false →
    is_solid (moved_to a b s) ≡ false → reply_to s (Move a b) ≡ Flat
does_not_move a b s f g h = rw (f, g, h) refl

-- what is no move brings no second place
pub arrived_still : (s : List ℕ) (edit : Edit) (r : Reply) → is_move edit ≡ false → arrived s edit r ≡ s
arrived_still s (Add p) r e = refl
arrived_still s (Take p) r e = refl
arrived_still s (Move a b) r e = absurd cc

-- the set then
pub after_moved : (a b : ℕ) (s : List ℕ) → reply_to s (Move a b) ≡ Moved → after s (Move a b) ≡ moved_to a b s
after_moved a b s e = ap (λ (r : Reply). changed (arrived s (Move a b) r) a r) e
