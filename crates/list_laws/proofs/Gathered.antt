-- What a loop has gathered of the first elements of a list.
use Rattle.std.specs.Prelude.{List, [], length, slice_index_or, ℕ, ◌++◌, ◌+◌, ◌<◌, ◌∷◌, ◌≡◌, ◌≤◌, ◌⊎◌}
use Rattle.std.proofs.Common.{inl, inr, subst, take}
use Rattle.list_laws.specs.Lists.{Gathers, IsIn}
use Rattle.list_laws.proofs.Members.{in_pushed, pushed_new, pushed_old}
use Rattle.list_laws.proofs.Places.{at_place, each_more, each_none, each_taken}

-- What was gathered from the first n elements, beside what was there: all that they give, and nothing else.
pub record Gathered {X Y : Type 0} (R : X → Y → Type 0) (xs : List X) (n : ℕ) (old list : List Y) : Type 0 where
  pub each : (y : Y) → IsIn y list → IsIn y old ⊎ ((x : X) × IsIn x xs × R x y)
  pub kept : (y : Y) → IsIn y old → IsIn y list
  pub all : (x : X) → IsIn x (take n xs) → (y : Y) → R x y → IsIn y list

-- at the start nothing is gathered
pub gather_none : {X Y : Type 0} (R : X → Y → Type 0) (xs : List X) (old : List Y) → Gathered R xs 0 old old
gather_none R xs old =
    record { each = λ y m. inl m; kept = λ y m. m; all = each_none (λ x. (y : _) → R x y → IsIn y old) xs }

-- the next element, and a list with what it gives
pub gather_step : {X Y : Type 0} (R : X → Y → Type 0) (xs : List X) (n : ℕ) (old list new : List Y) (x d : X) →
    n < length xs → x ≡ slice_index_or xs n d →
    ((y : Y) → IsIn y new → IsIn y list ⊎ R x y) → ((y : Y) → IsIn y list → IsIn y new) →
    ((y : Y) → R x y → IsIn y new) → Gathered R xs n old list → Gathered R xs (n + 1) old new
gather_step {X} {Y} R xs n old list new x d h e f g k s = record {
  each = λ y m. elim (f y m) [ inl i ↦ s.each y i | inr r ↦ inr (x, at_place xs n x d h e, r) ];
  kept = λ y m. g y (s.kept y m);
  all = each_more (λ x. (y : Y) → R x y → IsIn y new) xs n x d h e (λ z m y r. g y (s.all z m y r)) k;
}

-- the next element, which gives one, and that one is pushed
pub gather_push : {X Y : Type 0} (R : X → Y → Type 0) (xs : List X) (n : ℕ) (old list new : List Y) (x d : X) (y : Y) →
    n < length xs → x ≡ slice_index_or xs n d →
    R x y → ((z : Y) → R x z → y ≡ z) → new ≡ list ++ y ∷ [] → Gathered R xs n old list → Gathered R xs (n + 1) old new
gather_push R xs n old list new x d y h e r f p s =
    gather_step R xs n old list new x d h e (λ z m. elim (in_pushed list new y z p m) [
      | inl k ↦ inl k
      | inr q ↦ inr (subst (R x) q r)
    ]) (λ z m. pushed_old list new y z p m) (λ z t. subst (λ v. IsIn v new) (f z t) (pushed_new list new y p)) s

-- the next element, which gives none
pub gather_skip : {X Y : Type 0} (R : X → Y → Type 0) (xs : List X) (n : ℕ) (old list : List Y) (x d : X) →
    n < length xs → x ≡ slice_index_or xs n d → ((z : Y) → R x z → ⊥) → Gathered R xs n old list →
    Gathered R xs (n + 1) old list
gather_skip R xs n old list x d h e f s =
    gather_step R xs n old list list x d h e (λ z m. inl m) (λ z m. m) (λ z t. absurd (f z t)) s

-- at the end all that the elements give is there
pub gather_all : {X Y : Type 0} (R : X → Y → Type 0) (xs : List X) (n : ℕ) (old list : List Y) → length xs ≤ n →
    Gathered R xs n old list → (x : X) → IsIn x xs → (y : Y) → R x y → IsIn y list
gather_all {X} {Y} R xs n old list h s = each_taken (λ x. (y : Y) → R x y → IsIn y list) xs n h s.all

-- what was gathered of all elements is gathered of the list
pub gathers : {X Y : Type 0} (R : X → Y → Type 0) (xs : List X) (n : ℕ) (old list : List Y) → length xs ≤ n →
    Gathered R xs n old list → Gathers R xs old list
gathers {X} {Y} R xs n old list h s = record {
  each = s.each;
  kept = s.kept;
  all =
      each_taken (λ x. (y : Y) → R x y → IsIn y list) xs n h s.all;
}
