-- Two edits that share no point can be done side by side.
use Rattle.std.specs.Prelude.{◌≡◌, ℕ, zero, suc, ◌<◌, ◌≤◌, ◌||◌, ◌&&◌, Bool, false, List, [], ◌∷◌, ◌++◌, All, AllPairs}
use Rattle.std.specs.Prelude.{length}
use Rattle.std.proofs.Common.{refl, sym, ◌∙◌, subst, inl, inr, arith, ap}
use Rattle.list_laws.proofs.Cited.{all_of_each, later_pairs}
use Rattle.point_order.specs.Sets.{IsIn}
use Rattle.edit_history.specs.Edits.{is_move, share_point}
use Rattle.plain_laws.specs.Running.{Pair, HaveNoPoint, clash}
use Rattle.edit_lists.specs.Dealing.{AreTagsAscending, CanBeDone, count_all}

-- one of a list of one
only : {X : Type 0} (P : X → Type 0) (x : X) → P x → (y : X) → IsIn y (x ∷ []) → P y
only P x p y (inl e) = subst P e p
only P x p y (inr i) = absurd i

-- two edits that share no point, a list each, can be done
pub two_done : (one two : Pair) → share_point one.1 two.1 ≡ false → CanBeDone ((one ∷ []) ∷ (two ∷ []) ∷ [])
two_done one two apart = record {
  some = omega arith;
  short = omega arith;
  tags = all_of_each AreTagsAscending ((one ∷ []) ∷ (two ∷ []) ∷ []) each;
  apart = later_pairs HaveNoPoint ((one ∷ []) ∷ (two ∷ []) ∷ [])
      (only (HaveNoPoint (one ∷ [])) (two ∷ []) across, ((λ y i. absurd i), tt));
  alone = later_pairs (λ (x y : Pair). clash x y ≡ false) (one ∷ two ∷ [])
      (only (λ (y : Pair). clash one y ≡ false) two calm, ((λ y i. absurd i), tt));
}
  where
    single : (x : Pair) → AreTagsAscending (x ∷ [])
    single x = later_pairs (λ (a b : Pair). a.0 < b.0) (x ∷ []) ((λ y i. absurd i), tt)

    each : (l : List Pair) → IsIn l ((one ∷ []) ∷ (two ∷ []) ∷ []) → AreTagsAscending l
    each l (inl e) = subst AreTagsAscending e (single one)
    each l (inr i) = only AreTagsAscending (two ∷ []) (single two) l i

    across : HaveNoPoint (one ∷ []) (two ∷ [])
    across a b i j =
        only (λ (x : Pair). share_point x.1 b.1 ≡ false) one
        (only (λ (y : Pair). share_point one.1 y.1 ≡ false) two apart b j) a i

    calm : clash one two ≡ false
    calm = ap (λ (b : Bool). b && (is_move one.1 || is_move two.1)) apart

-- the lists that were made of them
pub made_done : (one two : Pair) (segments : List (List (List Pair))) → share_point one.1 two.1 ≡ false →
    segments ≡ ((one ∷ []) ∷ (two ∷ []) ∷ []) ∷ [] → All CanBeDone segments
made_done one two segments apart e =
    subst (All CanBeDone) (sym e)
    (all_of_each CanBeDone (((one ∷ []) ∷ (two ∷ []) ∷ []) ∷ [])
    (only CanBeDone ((one ∷ []) ∷ (two ∷ []) ∷ []) (two_done one two apart)))
