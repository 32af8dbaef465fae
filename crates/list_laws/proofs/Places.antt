-- Elements by their places: the first ones of a list, one more, and a list with one place written.
use Rattle.std.specs.Prelude.{List, None, Option, Some, [], length, map, slice_index, slice_index_or, slice_set, suc}
use Rattle.std.specs.Prelude.{take, zero, ℕ, ◌++◌, ◌+◌, ◌<◌, ◌∷◌, ◌≡◌, ◌≢◌, ◌≤◌, ◌⊎◌}
use Rattle.std.proofs.Common.{ap, arith, inl, inr, refl, subst, sym, ◌∙◌}
use Rattle.std.proofs.Math.Seq.{take-append_seam}
use Rattle.std.proofs.lemmas.List.{take_more}
use Rattle.list_laws.specs.Lists.{IsIn}
use Rattle.list_laws.proofs.Members.{from_append}

-- an element at a place is a member
pub at_place : {X : Type 0} (l : List X) (i : ℕ) (x d : X) → i < length l → x ≡ slice_index_or l i d → IsIn x l
at_place [] i x d h e = absurd (omega arith)
at_place (y ∷ l) zero x d h e = inl (sym e)
at_place (y ∷ l) (suc i) x d h e = inr (at_place l i x d (omega arith) e)

-- a member of the first elements and one more is a member of the first, or that one
pub in_more : {X : Type 0} (l : List X) (i : ℕ) (x d y : X) → i < length l → x ≡ slice_index_or l i d →
    IsIn y (take (suc i) l) → IsIn y (take i l) ⊎ (x ≡ y)
in_more [] i x d y h e k = absurd (omega arith)
in_more (z ∷ l) zero x d y h e (inl k) = inr (e ∙ k)
in_more (z ∷ l) zero x d y h e (inr k) = absurd k
in_more (z ∷ l) (suc i) x d y h e (inl k) = inl (inl k)
in_more (z ∷ l) (suc i) x d y h e (inr k) = elim (in_more l i x d y (omega arith) e k) [
  | inl m ↦ inl (inr m)
  | inr m ↦ inr m
]

-- what holds of each of the first elements, and of one more
pub each_more : {X : Type 0} (P : X → Type 0) (l : List X) (i : ℕ) (x d : X) → i < length l → x ≡ slice_index_or l i d →
    ((y : X) → IsIn y (take i l) → P y) → P x → (y : X) → IsIn y (take (i + 1) l) → P y
each_more P l i x d h e f p y m = elim (in_more l i x d y h e (subst (λ n. IsIn y (take n l)) (one i) m)) [
  | inl k ↦ f y k
  | inr q ↦ subst P q p
]
  where
    one : (i : ℕ) → i + 1 ≡ suc i
    one i = omega arith

-- of so many first elements as there are, each member is one
pub all_taken_in : {X : Type 0} (l : List X) (i : ℕ) (y : X) → length l ≤ i → IsIn y l → IsIn y (take i l)
all_taken_in [] i y h m = absurd m
all_taken_in (x ∷ l) zero y h m = absurd (omega arith)
all_taken_in (x ∷ l) (suc i) y h (inl e) = inl e
all_taken_in (x ∷ l) (suc i) y h (inr m) = inr (all_taken_in l i y (omega arith) m)

-- and of all
pub each_taken : {X : Type 0} (P : X → Type 0) (l : List X) (i : ℕ) → length l ≤ i →
    ((y : X) → IsIn y (take i l) → P y) → (y : X) → IsIn y l → P y
each_taken P l i h f y m = f y (all_taken_in l i y h m)

-- none of no elements
pub each_none : {X : Type 0} (P : X → Type 0) (l : List X) → (y : X) → IsIn y (take 0 l) → P y
each_none P [] y m = absurd m
each_none P (x ∷ l) y m = absurd m

-- the first ones and the next
pub take_next : {X : Type 0} (l : List X) (i : ℕ) (x : X) → i < length l → x ≡ slice_index_or l i x →
    take (i + 1) l ≡ take i l ++ x ∷ []
take_next l i x h e = take_more l i x h ∙ ap (λ v. take i l ++ v ∷ []) (sym e)

-- a member of the first ones and the next is one of the first, or that one
pub in_take_more : {X : Type 0} (l : List X) (i : ℕ) (x y : X) → i < length l → x ≡ slice_index_or l i x →
    IsIn y (take (i + 1) l) → IsIn y (take i l) ⊎ (x ≡ y)
in_take_more l i x y h e m = elim (from_append y (take i l) (x ∷ []) (subst (λ v. IsIn y v) (take_next l i x h e) m)) [
  | inl k ↦ inl k
  | inr k ↦ elim k [ inl q ↦ inr q | inr none ↦ absurd none ]
]

-- a member of the first n is one of the list
pub in_take : {X : Type 0} (n : ℕ) (l : List X) (x : X) → IsIn x (take n l) → IsIn x l
in_take zero l x m = absurd m
in_take (suc n) [] x m = m
in_take (suc n) (y ∷ l) x m = elim m [ inl e ↦ inl e | inr k ↦ inr (in_take n l x k) ]

-- the first elements and one more
pub take_suc : {X : Type 0} (l : List X) (n : ℕ) (d : X) → n < length l →
    take (suc n) l ≡ take n l ++ slice_index_or l n d ∷ []
take_suc [] n d h = absurd (omega arith)
take_suc (x ∷ l) zero d h = refl
take_suc {X} (x ∷ l) (suc n) d h = ap (λ (m : List X). x ∷ m) (take_suc l n d (omega arith))

-- an element within a list does not depend on what stands for those past its end
pub within_list : {X : Type 0} (l : List X) (i : ℕ) (d u : X) → i < length l → d ≡ slice_index_or l i d →
    slice_index_or l i u ≡ d
within_list [] i d u h e = absurd (omega arith)
within_list (y ∷ l) zero d u h e = sym e
within_list (y ∷ l) (suc i) d u h e = within_list l i d u (omega arith) e

-- the front of a list that goes on behind others is these
pub front_is : {X : Type 0} (ws m : List X) (n : ℕ) → n ≡ length ws → take n (ws ++ m) ≡ ws
front_is ws m n e = rw e (take-append_seam ws m)

-- a number at a place within the list is a member
pub index_in : (s : List ℕ) (i : ℕ) → i < length s → IsIn (slice_index s i) s
index_in [] i h = absurd (omega arith)
index_in (x ∷ s) zero h = inl refl
index_in (x ∷ s) (suc i) h = inr (index_in s i (omega arith))

-- within a list what stands for elements past its end does not count
pub default_free : (l : List ℕ) (i d u : ℕ) → i < length l → slice_index_or l i d ≡ slice_index_or l i u
default_free [] i d u h = absurd (omega arith)
default_free (x ∷ l) zero d u h = refl
default_free (x ∷ l) (suc i) d u h = default_free l i d u (omega arith)

-- setting a place changes no length
pub len_set : {X : Type 0} (l : List X) (i : ℕ) (x : X) → length (slice_set l i x) ≡ length l
len_set [] i x = refl
len_set (y ∷ l) zero x = refl
len_set (y ∷ l) (suc i) x = ap suc (len_set l i x)

-- what is there is set
pub set_there : {X : Type 0} (l : List (Option X)) (b : ℕ) (x : X) → slice_index_or l b None ≡ Some x →
    slice_set l b (Some x) ≡ l
set_there [] b x e = refl
set_there {X} (o ∷ l) zero x e = ap (λ (y : Option X). y ∷ l) (sym e)
set_there {X} (o ∷ l) (suc b) x e = ap (λ (m : List (Option X)). o ∷ m) (set_there l b x e)

-- one of the first elements is one of one more
pub more_one : {X : Type 0} (l : List X) (i : ℕ) (y : X) → IsIn y (take i l) → IsIn y (take (suc i) l)
more_one [] zero y k = absurd k
more_one [] (suc i) y k = absurd k
more_one (z ∷ l) zero y k = absurd k
more_one (z ∷ l) (suc i) y (inl e) = inl e
more_one (z ∷ l) (suc i) y (inr k) = inr (more_one l i y k)

-- the next element is one of the first elements and one more
pub last_one : {X : Type 0} (l : List X) (i : ℕ) (x d : X) → i < length l → x ≡ slice_index_or l i d →
    IsIn x (take (suc i) l)
last_one [] i x d h e = absurd (omega arith)
last_one (z ∷ l) zero x d h e = inl (sym e)
last_one (z ∷ l) (suc i) x d h e = inr (last_one l i x d (omega arith) e)

-- two places can be set in either order
pub set_swapped : {X : Type 0} (l : List X) (i j : ℕ) (a b : X) → i ≢ j → slice_set (slice_set l i a) j b
    ≡ slice_set (slice_set l j b) i a
set_swapped [] i j a b n = refl
set_swapped (x ∷ l) zero zero a b n = absurd (n refl)
set_swapped (x ∷ l) zero (suc j) a b n = refl
set_swapped (x ∷ l) (suc i) zero a b n = refl
set_swapped (x ∷ l) (suc i) (suc j) a b n = ap (λ (m : List _). x ∷ m) (set_swapped l i j a b (λ e. n (ap suc e)))

-- the images of a list with a place set
pub map_set : {X Y : Type 0} (f : X → Y) (l : List X) (i : ℕ) (a : X) →
    map f (slice_set l i a) ≡ slice_set (map f l) i (f a)
map_set f [] i a = refl
map_set f (x ∷ l) zero a = refl
map_set f (x ∷ l) (suc i) a = ap (λ (m : List _). f x ∷ m) (map_set f l i a)

-- what is set last stays
pub set_twice : {X : Type 0} (l : List X) (n : ℕ) (a b : X) → slice_set (slice_set l n a) n b ≡ slice_set l n b
set_twice [] n a b = refl
set_twice (x ∷ l) zero a b = refl
set_twice (x ∷ l) (suc n) a b = ap (λ k. x ∷ k) (set_twice l n a b)
