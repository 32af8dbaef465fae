-- Members of lists that are joined, mapped or put into another order; what holds of each.
use Rattle.std.specs.List.{AllByRecursion, Contains, flat_map}
use Rattle.std.specs.Prelude.{All, IsPermutation, List, [], false, map, refl, suc, true, ℕ, ◌++◌, ◌==◌, ◌∷◌, ◌≡◌, ◌⊎◌}
use Rattle.std.proofs.Common.{ap, arith, get_or, inl, inr, length, subst, sym, zero, ◌<◌}
use Rattle.std.proofs.lemmas.List.Sorted.{All-permutation, Contains-permutation}
use Rattle.list_laws.specs.Lists.{IsIn, is_among}
use Rattle.list_laws.proofs.Filters.{any_from, any_true}
use Rattle.list_laws.proofs.Numbers.{eq_same, same_from}

-- a member of the first of two lists
pub in_left : {X : Type 0} (e : X) (l m : List X) → IsIn e l → IsIn e (l ++ m)
in_left e [] m i = absurd i
in_left e (x ∷ l) m i = elim i [ inl q ↦ inl q | inr r ↦ inr (in_left e l m r) ]

-- of the second
pub in_right : {X : Type 0} (e : X) (l m : List X) → IsIn e m → IsIn e (l ++ m)
in_right e [] m i = i
in_right e (x ∷ l) m i = inr (in_right e l m i)

-- a member of both together
pub from_append : {X : Type 0} (e : X) (l m : List X) → IsIn e (l ++ m) → IsIn e l ⊎ IsIn e m
from_append e [] m i = inr i
from_append e (x ∷ l) m i = elim i [
  | inl q ↦ inl (inl q)
  | inr r ↦ elim (from_append e l m r) [ inl k ↦ inl (inr k) | inr k ↦ inr k ]
]

-- f of a member
pub mapped_true : {X Y : Type 0} (f : X → Y) (e : X) (l : List X) → IsIn e l → IsIn (f e) (map f l)
mapped_true f e [] i = absurd i
mapped_true f e (x ∷ l) i = elim i [ inl q ↦ inl (ap f q) | inr r ↦ inr (mapped_true f e l r) ]

-- and back
pub mapped_from : {X Y : Type 0} (f : X → Y) (e : Y) (l : List X) → IsIn e (map f l) → (x : X) × IsIn x l × (f x ≡ e)
mapped_from f e [] i = absurd i
mapped_from f e (x ∷ l) i = elim i [
  | inl q ↦ (x, inl refl, q)
  | inr r ↦ (let k = mapped_from f e l r in (k.0, inr k.1, k.2))
]

-- a member of what f gives for a member
pub in_flat : {X Y : Type 0} (f : X → List Y) (l : List X) (x : X) (y : Y) → IsIn x l → IsIn y (f x) →
    IsIn y (flat_map f l)
in_flat f [] x y m i = absurd m
in_flat f (z ∷ l) x y (inl e) i = in_left y (f z) (flat_map f l) (subst (λ v. IsIn y (f v)) (sym e) i)
in_flat f (z ∷ l) x y (inr m) i = in_right y (f z) (flat_map f l) (in_flat f l x y m i)

-- and back
pub flat_from : {X Y : Type 0} (f : X → List Y) (l : List X) (y : Y) → IsIn y (flat_map f l) → (x : X) × IsIn x l
    × IsIn y (f x)
flat_from f [] y i = absurd i
flat_from f (z ∷ l) y i = elim (from_append y (f z) (flat_map f l) i) [
  | inl k ↦ (z, inl refl, k)
  | inr k ↦ (let r = flat_from f l y k in (r.0, inr r.1, r.2))
]

-- a member of a list with one more
pub in_pushed : {X : Type 0} (l m : List X) (x y : X) → m ≡ l ++ x ∷ [] → IsIn y m → IsIn y l ⊎ (x ≡ y)
in_pushed l m x y e k = elim (from_append y l (x ∷ []) (subst (IsIn y) e k)) [
  | inl i ↦ inl i
  | inr i ↦ elim i [ inl q ↦ inr q | inr n ↦ absurd n ]
]

-- what was there is there
pub pushed_old : {X : Type 0} (l m : List X) (x y : X) → m ≡ l ++ x ∷ [] → IsIn y l → IsIn y m
pushed_old l m x y e k = subst (IsIn y) (sym e) (in_left y l (x ∷ []) k)

-- and so is the new one
pub pushed_new : {X : Type 0} (l m : List X) (x : X) → m ≡ l ++ x ∷ [] → IsIn x m
pushed_new l m x e = subst (IsIn x) (sym e) (in_right x l (x ∷ []) (inl refl))

-- a member of a list with one more is one of the list, or that one
pub in_snoc : {X : Type 0} (l : List X) (b x : X) → IsIn x (l ++ b ∷ []) → IsIn x l ⊎ (b ≡ x)
in_snoc l b x m = in_pushed l (l ++ b ∷ []) b x refl m

-- what was there, where no name stands for the longer list
pub snoc_old : {X : Type 0} (l : List X) (b x : X) → IsIn x l → IsIn x (l ++ b ∷ [])
snoc_old l b x m = in_left x l (b ∷ []) m

-- and the new one
pub snoc_new : {X : Type 0} (l : List X) (b : X) → IsIn b (l ++ b ∷ [])
snoc_new l b = in_right b l (b ∷ []) (inl refl)

-- what stands in a list is a member
pub at_in : {X : Type 0} (l : List X) (i : ℕ) (d : X) → i < length l → IsIn (get_or l i d) l
at_in [] i d h = absurd (omega arith)
at_in (x ∷ l) zero d h = inl refl
at_in (x ∷ l) (suc i) d h = inr (at_in l i d (omega arith))

-- a member, as std says it
pub in_contained : {X : Type 0} (l : List X) (x : X) → Contains l x → IsIn x l
in_contained l x h = subst (λ y. IsIn y l) h.2 (at_in l h.0 x h.1)

-- and back
pub contains_in : {X : Type 0} (l : List X) (x : X) → IsIn x l → Contains l x
contains_in [] x i = absurd i
contains_in (y ∷ l) x (inl e) = (0, omega arith, e)
contains_in (y ∷ l) x (inr i) = let r = contains_in l x i in (suc r.0, (let h = r.1 in omega arith), r.2)

-- a member of a list is one of each arrangement of it
pub in_permutation : {X : Type 0} (xs ys : List X) (x : X) → IsPermutation xs ys → IsIn x xs → IsIn x ys
in_permutation {X} xs ys x p i =
    let c = Contains-permutation xs ys x p (contains_in xs x i) in subst (λ (z : X). IsIn z ys) c.2 (at_in ys c.0 x c.1)

-- where a member stands
pub split_at : {X : Type 0} (xs : List X) (x : X) → IsIn x xs → (before : List X) × (behind : List X)
    × (xs ≡ before ++ x ∷ behind)
split_at [] x i = absurd i
split_at {X} (y ∷ xs) x (inl e) = ([], xs, ap (λ (z : X). z ∷ xs) e)
split_at {X} (y ∷ xs) x (inr i) = let r = split_at xs x i in (y ∷ r.0, r.1, ap (λ (l : List X). y ∷ l) r.2)

-- what holds at all places holds of each member
pub each_of_all : {X : Type 0} (P : X → Type 0) (xs : List X) → All P xs → (x : X) → IsIn x xs → P x
each_of_all P xs h x i = let c = contains_in xs x i in subst P c.2 (h c.0 x c.1)

-- and back
pub all_of_each : {X : Type 0} (P : X → Type 0) (xs : List X) → ((x : X) → IsIn x xs → P x) → All P xs
all_of_each P xs h k d l = h (get_or xs k d) (at_in xs k d l)

-- and a member of an arrangement is one of the list
pub in_moved : {X : Type 0} (xs ys : List X) (x : X) → IsPermutation xs ys → IsIn x ys → IsIn x xs
in_moved xs ys x p i =
    each_of_all (λ y. IsIn y xs) ys (All-permutation (λ y. IsIn y xs) xs ys p (λ k d h. at_in xs k d h)) x i

-- what holds of each member, as std says it
pub all_by : {X : Type 0} (P : X → Type 0) (l : List X) → ((y : X) → IsIn y l → P y) → AllByRecursion P l
all_by P [] f = tt
all_by P (x ∷ l) f = (f x (inl refl), all_by P l (λ y m. f y (inr m)))

-- and back
pub each_by : {X : Type 0} (P : X → Type 0) (l : List X) → AllByRecursion P l → (y : X) → IsIn y l → P y
each_by P [] a y m = absurd m
each_by P (x ∷ l) a y m = elim m [ inl q ↦ subst P q a.0 | inr r ↦ each_by P l a.1 y r ]

-- a point that is told to be in a list
pub among_from : (p : ℕ) (s : List ℕ) → is_among p s ≡ true → IsIn p s
among_from p s t = (
    let r = any_from (λ q. q == p) s t in
    let e : r.0 ≡ p = same_from r.0 p r.2 in
    subst (λ v. IsIn v s) e r.1)

-- and back
pub among_true : (p : ℕ) (s : List ℕ) → IsIn p s → is_among p s ≡ true
among_true p s m = any_true (λ q. q == p) s p m (eq_same p)

-- a point whose test is false is none of the set
pub not_among : (s : List ℕ) (p : ℕ) → is_among p s ≡ false → ¬ (IsIn p s)
not_among s p f i = let t = among_true p s i in cc (t, f)

-- what holds of three points holds of one of them
pub of_three : (P : ℕ → Type 0) {e a b c : ℕ} → IsIn e (a ∷ b ∷ c ∷ []) → P a → P b → P c → P e
of_three P m pa pb pc =
    elim m [
      | inl q ↦ subst P q pa
      | inr r ↦ elim r [ inl q ↦ subst P q pb | inr u ↦ elim u [ inl q ↦ subst P q pc | inr none ↦ absurd none ] ]
    ]

-- an empty list has no members
pub none_in : {X : Type 0} (l : List X) (x : X) → length l ≡ 0 → IsIn x l → ⊥
none_in [] x h i = absurd i
none_in (y ∷ l) x h i = absurd (omega (arith, h))
