-- Lists that are strictly sorted by an order of their elements.
use Rattle.std.specs.Cmp.{IsEquivalence, IsTotalOrder}
use Rattle.std.specs.Cmp.Lexicographic.{slice_cmp}
use Rattle.std.specs.List.{AllByRecursion, dedup}
use Rattle.std.specs.List.Sorted.{IsPermutation, IsSorted, IsStrictlySortedBy}
use Rattle.std.specs.Ordering.{eq_by_cmp, is_eq, is_gt, is_lt, nat_cmp, ordering_reverse, ordering_then}
use Rattle.std.specs.Prelude.{List, [], map, refl, ℕ, ◌++◌, ◌<◌, ◌==◌, ◌∷◌, ◌≡◌}
use Rattle.std.specs.declared.cmp.Ordering.{Ordering}
use Rattle.std.specs.declared.cmp.Ordering.TheVariants.{Equal, Greater, Less}
use Rattle.std.proofs.Common.{Bool, ap, arith, drop, false, get_or, inl, inr, length, subst, suc, sym, take, zero, ◌+◌}
use Rattle.std.proofs.Common.{◌∙◌, ◌⊎◌}
use Rattle.std.proofs.lemmas.Bool.Decides.{nat_tests}
use Rattle.std.proofs.lemmas.Cmp.{eq_by_cmp_equiv, nat_list_cmp_total}
use Rattle.std.proofs.lemmas.List.Kept.{Contains-dedup, Contains-from_dedup, IsStrictlySortedBy-dedup}
use Rattle.std.proofs.lemmas.List.Sorted.{Contains-permutation, IsPermutation-sym}
use Rattle.std.proofs.lemmas.Map.Lookups.{CmpEqualImpliesEq}
use Rattle.list_laws.specs.Lists.{IsIn}
use Rattle.list_laws.proofs.Members.{all_by, at_in, contains_in, each_by, from_append, in_contained, in_left, in_right}
use Rattle.list_laws.proofs.Members.{mapped_from}
use Rattle.list_laws.proofs.Numbers.{cmp_less, cmp_same, is_equal}

-- nothing is before itself
pub itself : {X : Type 0} (cmp : X → X → Ordering) (o : IsTotalOrder cmp) (x : X) → cmp x x ≡ Less → ⊥
itself cmp o x e = (let n : Less ≡ Greater = sym e ∙ o.antisymm x x ∙ ap ordering_reverse e in cc)

-- what is before another is not behind it
pub never : {X : Type 0} (cmp : X → X → Ordering) (o : IsTotalOrder cmp) (x y : X) → cmp x y ≡ Less → cmp y x ≡ Less → ⊥
never cmp o x y e f = itself cmp o x (o.trans x y x e f)

-- it is level with itself
pub level : {X : Type 0} (cmp : X → X → Ordering) (o : IsTotalOrder cmp) (x : X) → cmp x x ≡ Equal
level {X} cmp o x = by (cmp x x) refl
  where
    by : (r : Ordering) → cmp x x ≡ r → cmp x x ≡ Equal
    by Less e = absurd (itself cmp o x e)
    by Equal e = e
    by Greater e = (let n : Greater ≡ Less = sym e ∙ o.antisymm x x ∙ ap ordering_reverse e in cc)

-- two lists in order with the same members are one
pub one_order :
    {X : Type 0} (cmp : X → X → Ordering) (o : IsTotalOrder cmp) (xs ys : List X) → IsStrictlySortedBy cmp xs →
    IsStrictlySortedBy cmp ys →
    ((x : X) → IsIn x xs → IsIn x ys) → ((x : X) → IsIn x ys → IsIn x xs) → xs ≡ ys
unfolding IsStrictlySortedBy
one_order cmp o [] [] s t f g = refl
one_order cmp o [] (y ∷ ys) s t f g = absurd (g y (inl refl))
one_order cmp o (x ∷ xs) [] s t f g = absurd (f x (inl refl))
one_order {X} cmp o (x ∷ xs) (y ∷ ys) s t f g =
    (let r : xs ≡ ys = one_order cmp o xs ys s.1 t.1 there back in let q : x ≡ y = e in cc)
  where
    -- the first is one
    e : x ≡ y
    e = elim (f x (inl refl)) [
      | inl a ↦ sym a
      | inr i ↦ elim (g y (inl refl)) [
        | inl b ↦ b
        | inr j ↦ absurd (never cmp o x y (each_by (λ z. cmp x z ≡ Less) xs s.0 y j)
            (each_by (λ z. cmp y z ≡ Less) ys t.0 x i))
      ]
    ]

    -- and so are the others
    there : (p : X) → IsIn p xs → IsIn p ys
    there p i = elim (f p (inr i)) [
      | inl a ↦ absurd (itself cmp o x (subst (λ v. cmp x v ≡ Less) (sym a ∙ sym e)
          (each_by (λ z. cmp x z ≡ Less) xs s.0 p i)))
      | inr j ↦ j
    ]

    back : (p : X) → IsIn p ys → IsIn p xs
    back p i = elim (g p (inr i)) [
      | inl a ↦ absurd (itself cmp o y (subst (λ v. cmp y v ≡ Less) (sym a ∙ e)
          (each_by (λ z. cmp y z ≡ Less) ys t.0 p i)))
      | inr j ↦ j
    ]

-- with one more behind all
pub all_end : {X : Type 0} (P : X → Type 0) (l : List X) (k : X) → AllByRecursion P l → P k →
    AllByRecursion P (l ++ k ∷ [])
all_end P [] k a p = (p, tt)
all_end P (x ∷ l) k a p = (a.0, all_end P l k a.1 p)

-- a list in order with one more behind all is in order
pub sorted_end : {X : Type 0} (cmp : X → X → Ordering) (l : List X) (k : X) → IsStrictlySortedBy cmp l →
    ((x : X) → IsIn x l → cmp x k ≡ Less) → IsStrictlySortedBy cmp (l ++ k ∷ [])
unfolding IsStrictlySortedBy
sorted_end cmp [] k s f = (tt, tt)
sorted_end cmp (x ∷ l) k s f =
    (all_end (λ y. cmp x y ≡ Less) l k s.0 (f x (inl refl)), sorted_end cmp l k s.1 (λ y i. f y (inr i)))

-- each element is the last, or before it
pub before_last : {X : Type 0} (cmp : X → X → Ordering) (l : List X) (i : ℕ) (d x : X) → suc i ≡ length l →
    IsStrictlySortedBy cmp l → IsIn x l → (cmp x (get_or l i d) ≡ Less) ⊎ (get_or l i d ≡ x)
unfolding IsStrictlySortedBy
before_last cmp [] i d x h s m = absurd m
before_last cmp (y ∷ []) zero d x h s m = elim m [ inl e ↦ inr e | inr j ↦ absurd j ]
before_last cmp (y ∷ z ∷ l) zero d x h s m = absurd (omega arith)
before_last cmp (y ∷ []) (suc i) d x h s m = absurd (omega arith)
before_last cmp (y ∷ z ∷ l) (suc i) d x h s m = elim m [
  | inl e ↦ inl (subst (λ v. cmp v (get_or (z ∷ l) i d) ≡ Less) e
      (each_by (λ w. cmp y w ≡ Less) (z ∷ l) s.0 (get_or (z ∷ l) i d) (at_in (z ∷ l) i d (omega arith))))
  | inr j ↦ before_last cmp (z ∷ l) i d x (omega arith) s.1 j
]

-- what stands before an element is before it
pub before_next : {X : Type 0} (cmp : X → X → Ordering) (l : List X) (i : ℕ) (d x : X) → IsStrictlySortedBy cmp l →
    i < length l → IsIn x (take i l) → cmp x (get_or l i d) ≡ Less
unfolding IsStrictlySortedBy
before_next cmp [] i d x s h m = absurd (omega arith)
before_next cmp (y ∷ l) zero d x s h m = absurd m
before_next cmp (y ∷ l) (suc i) d x s h m = elim m [
  | inl e ↦ subst (λ v. cmp v (get_or l i d) ≡ Less) e (each_by (λ w. cmp y w ≡ Less) l s.0 (get_or l i d)
      (at_in l i d (omega arith)))
  | inr j ↦ before_next cmp l i d x s.1 (omega arith) j
]

-- a sorted list without repeats is in strict order
pub deduped_sorted :
    {X : Type 0} (cmp : X → X → Ordering) (o : IsTotalOrder cmp) (same : X → X → Bool) →
    ((x y : X) → same x y ≡ eq_by_cmp cmp x y) →
    (sorted deduped : List X) → IsSorted cmp sorted → deduped ≡ dedup same sorted → IsStrictlySortedBy cmp deduped
deduped_sorted cmp o same ties sorted deduped s e = rw e (IsStrictlySortedBy-dedup o ties sorted s)

-- those of a list are those of its arrangements
pub arranged_same : {X : Type 0} (l sorted : List X) → IsPermutation l sorted → (x : X) → (IsIn x sorted → IsIn x l)
    × (IsIn x l → IsIn x sorted)
arranged_same l sorted p x = (
  λ i. in_contained l x (Contains-permutation sorted l x (IsPermutation-sym l sorted p) (contains_in sorted x i)),
  λ i. in_contained sorted x (Contains-permutation l sorted x p (contains_in l x i)),
)

-- without repeats it has the same members
pub deduped_same :
    {X : Type 0} (cmp : X → X → Ordering) (o : IsTotalOrder cmp) (exact : CmpEqualImpliesEq cmp) (same : X → X → Bool) →
    ((x y : X) → same x y ≡ eq_by_cmp cmp x y) →
    (l deduped : List X) → deduped ≡ dedup same l → (x : X) → (IsIn x deduped → IsIn x l) × (IsIn x l → IsIn x deduped)
deduped_same {X} cmp o exact same ties l deduped e x = (
  λ i. in_contained l x (Contains-from_dedup same l x (contains_in (dedup same l) x (subst (IsIn x) e i))),
  λ i. subst (IsIn x) (sym e) (in_contained (dedup same l) x (Contains-dedup equivalence
      (λ y z h. exact y z (is_equal (cmp y z) (sym (ties y z) ∙ h))) l x (contains_in l x i))),
)
  where
    q : IsEquivalence (eq_by_cmp cmp)
    q = eq_by_cmp_equiv o

    equivalence : IsEquivalence same
    equivalence = record {
      refl = λ x. ties x x ∙ q.refl x;
      symm = λ x y. ties x y ∙ q.symm x y ∙ sym (ties y x);
      congr = λ x y z h. ties x z ∙ q.congr x y z (sym (ties x y) ∙ h) ∙ sym (ties y z);
    }

-- numbers are equal where they tie
pub nat_ties : (m n : ℕ) → (m == n) ≡ is_eq (nat_cmp m n)
nat_ties m n = grind (arith, nat_tests)

-- where the last is before the key, or there is none, all are
pub behind_all : {X : Type 0} (cmp : X → X → Ordering) (o : IsTotalOrder cmp) (l : List X) (i : ℕ) (d k : X) →
    suc i ≡ length l → IsStrictlySortedBy cmp l → cmp (get_or l i d) k ≡ Less → (x : X) → IsIn x l → cmp x k ≡ Less
behind_all cmp o l i d k h s e x m = elim (before_last cmp l i d x h s m) [
  | inl b ↦ o.trans x (get_or l i d) k b e
  | inr q ↦ subst (λ v. cmp v k ≡ Less) q e
]

-- where it is neither before nor behind the last, it is the last
pub is_last : {X : Type 0} (cmp : X → X → Ordering) (exact : CmpEqualImpliesEq cmp) (x k : X) →
    is_gt (cmp x k) ≡ false → is_lt (cmp x k) ≡ false → x ≡ k
is_last {X} cmp exact x k g l = by (cmp x k) refl g l
  where
    by : (r : Ordering) → cmp x k ≡ r → is_gt r ≡ false → is_lt r ≡ false → x ≡ k
    by Less e g l = cc
    by Equal e g l = exact x k e
    by Greater e g l = cc

-- members of a list with one more
pub in_end : {X : Type 0} (l : List X) (key k : X) → (IsIn k (l ++ key ∷ []) → IsIn k l ⊎ (key ≡ k))
    × (IsIn k l ⊎ (key ≡ k) → IsIn k (l ++ key ∷ []))
in_end {X} l key k = (
  λ i. elim (from_append k l (key ∷ []) i) [
    | inl j ↦ inl j
    | inr j ↦ elim j [ inl e ↦ inr e | inr none ↦ absurd none ]
  ],
  λ i. elim i [ inl j ↦ in_left k l (key ∷ []) j | inr e ↦ in_right k l (key ∷ []) (inl e) ],
)

-- no elements are in order
pub sorted_none : {X : Type 0} (cmp : X → X → Ordering) → IsStrictlySortedBy cmp []
unfolding IsStrictlySortedBy
sorted_none cmp = tt

-- what is left of a list in order is in order
pub sorted_drop : {X : Type 0} (cmp : X → X → Ordering) (l : List X) (n : ℕ) → IsStrictlySortedBy cmp l →
    IsStrictlySortedBy cmp (drop n l)
unfolding IsStrictlySortedBy
sorted_drop cmp l zero s = s
sorted_drop cmp [] (suc n) s = tt
sorted_drop cmp (x ∷ l) (suc n) s = sorted_drop cmp l n s.1

-- the first is before the others
pub after_first : {X : Type 0} (cmp : X → X → Ordering) (x : X) (l : List X) (k : X) → IsStrictlySortedBy cmp (x ∷ l) →
    IsIn k l → cmp x k ≡ Less
unfolding IsStrictlySortedBy
after_first cmp x l k s m = each_by (λ y. cmp x y ≡ Less) l s.0 k m

-- an element is before what stands behind it
pub before_others : {X : Type 0} (cmp : X → X → Ordering) (l : List X) (n : ℕ) (x k : X) → IsStrictlySortedBy cmp l →
    drop n l ≡ x ∷ drop (n + 1) l → IsIn k (drop (n + 1) l) → cmp x k ≡ Less
before_others cmp l n x k s e m =
    after_first cmp x (drop (n + 1) l) k (subst (IsStrictlySortedBy cmp) e (sorted_drop cmp l n s)) m

-- two lists in order, the first before the second
pub sorted_append : {X : Type 0} (c : X → X → Ordering) (l m : List X) → IsStrictlySortedBy c l →
    IsStrictlySortedBy c m → ((x y : X) → IsIn x l → IsIn y m → c x y ≡ Less) → IsStrictlySortedBy c (l ++ m)
unfolding IsStrictlySortedBy
sorted_append c [] m a b f = b
sorted_append c (x ∷ l) m a b f = (
  all_by (λ y. c x y ≡ Less) (l ++ m) (λ y i. elim (from_append y l m i) [
    | inl j ↦ each_by (λ y. c x y ≡ Less) l a.0 y j
    | inr j ↦ f x y (inl refl) j
  ]),
  sorted_append c l m a.1 b (λ x y i j. f x y (inr i) j),
)

-- a list in order, put through a function that keeps the order
pub sorted_map : {X Y : Type 0} (c : X → X → Ordering) (d : Y → Y → Ordering) (f : X → Y) (l : List X) →
    IsStrictlySortedBy c l → ((x y : X) → c x y ≡ Less → d (f x) (f y) ≡ Less) → IsStrictlySortedBy d (map f l)
unfolding IsStrictlySortedBy
sorted_map c d f [] a g = tt
sorted_map {X} {Y} c d f (x ∷ l) a g = (all_by (λ y. d (f x) y ≡ Less) (map f l) each, sorted_map c d f l a.1 g)
  where
    -- each of the later ones
    each : (y : Y) → IsIn y (map f l) → d (f x) y ≡ Less
    each y m =
        (let r = mapped_from f y l m in subst (λ z. d (f x) z ≡ Less) r.2
        (g x r.0 (each_by (λ z. c x z ≡ Less) l a.0 r.0 r.1)))

-- lists with the same first are in the order of the others
pub same_first : (x : ℕ) (q r : List ℕ) → slice_cmp nat_cmp q r ≡ Less → slice_cmp nat_cmp (x ∷ q) (x ∷ r) ≡ Less
same_first x q r e = ap (λ o. ordering_then o (slice_cmp nat_cmp q r)) (cmp_same x) ∙ e

-- a lesser first comes first
pub less_first : (x y : ℕ) (q r : List ℕ) → x < y → slice_cmp nat_cmp (x ∷ q) (y ∷ r) ≡ Less
less_first x y q r l = ap (λ o. ordering_then o (slice_cmp nat_cmp q r)) (cmp_less x y l)

-- no list of numbers is before itself, and none before what is before it
pub list_against : (q r : List ℕ) → slice_cmp nat_cmp q r ≡ Less → slice_cmp nat_cmp r q ≡ Less → ⊥
list_against q r e f = clash (sym e ∙ nat_list_cmp_total.antisymm q r ∙ ap ordering_reverse f)
  where
    -- two answers
    clash : Less ≡ Greater → ⊥
    clash e = cc
