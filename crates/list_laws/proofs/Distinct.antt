-- Lists in which no element stands twice.
use Rattle.std.specs.List.{AllByRecursion, IsDistinct, filter}
use Rattle.std.specs.Prelude.{Bool, List, [], cond, false, length, map, nat_eq, not, slice_index_or, suc, take, true}
use Rattle.std.specs.Prelude.{zero, ℕ, ◌++◌, ◌+◌, ◌<◌, ◌==◌, ◌∷◌, ◌≡◌, ◌≤◌}
use Rattle.std.proofs.Common.{ap, arith, eq-eqb, inl, inr, ne_eqb, refl, subst, sym, ◌∙◌}
use Rattle.std.proofs.lemmas.Bool.Decides.{nat_tests}
use Rattle.list_laws.specs.Lists.{AreDistinct, IsAscending, IsIn}
use Rattle.list_laws.proofs.Ascending.{below_each}
use Rattle.list_laws.proofs.Filters.{filtered_from}
use Rattle.list_laws.proofs.Members.{from_append, in_left, in_right, mapped_from, snoc_new, snoc_old}
use Rattle.list_laws.proofs.Places.{at_place, in_take}

-- where each stands once, the one at a place is none of those before
pub apart_place : {X : Type 0} (l : List X) (i : ℕ) (x : X) → AreDistinct l → i < length l → x ≡ slice_index_or l i x →
    ¬ (IsIn x (take i l))
apart_place [] i x d h e m = absurd (omega arith)
apart_place (y ∷ l) zero x d h e m = m
apart_place (y ∷ l) (suc i) x d h e m = elim m [
  | inl q ↦ d.0 (subst (λ v. IsIn v l) (sym q) (at_place l i x x (omega arith) e))
  | inr k ↦ apart_place l i x d.1 (omega arith) e k
]

-- the first ones stand once too
pub distinct_take : {X : Type 0} (n : ℕ) (l : List X) → AreDistinct l → AreDistinct (take n l)
distinct_take zero l d = tt
distinct_take (suc n) [] d = tt
distinct_take (suc n) (x ∷ l) d = (λ m. d.0 (in_take n l x m), distinct_take n l d.1)

-- one more, which is none of them
pub distinct_push : {X : Type 0} (l : List X) (x : X) → AreDistinct l → ¬ (IsIn x l) → AreDistinct (l ++ x ∷ [])
distinct_push [] x d n = (λ m. m, tt)
distinct_push (y ∷ l) x d n = (
  λ m. elim (from_append y l (x ∷ []) m) [
    | inl k ↦ d.0 k
    | inr k ↦ elim k [ inl e ↦ n (inl (sym e)) | inr none ↦ none ]
  ],
  distinct_push l x d.1 (λ m. n (inr m)),
)

-- images by a function that tells members apart
pub distinct_map : {X Y : Type 0} (f : X → Y) (l : List X) → ((a b : X) → IsIn a l → IsIn b l → f a ≡ f b → a ≡ b) →
    AreDistinct l → AreDistinct (map f l)
distinct_map f [] i d = tt
distinct_map f (x ∷ l) i d = (
  λ m. (let r = mapped_from f (f x) l m in d.0 (subst (λ v. IsIn v l) (i r.0 x (inr r.1) (inl refl) r.2) r.1)),
  distinct_map f l (λ a b m n e. i a b (inr m) (inr n) e) d.1,
)

-- the list without a member, which stands there
pub without_one : {X : Type 0} (x : X) (l : List X) → IsIn x l → List X
without_one x [] m = []
without_one x (y ∷ l) (inl e) = l
without_one x (y ∷ l) (inr m) = y ∷ without_one x l m

-- which is one shorter
pub length_without : {X : Type 0} (x : X) (l : List X) (m : IsIn x l) → length l ≡ length (without_one x l m) + 1
unfolding without_one
length_without x [] m = absurd m
length_without x (y ∷ l) (inl e) = omega arith
length_without x (y ∷ l) (inr m) = omega (arith, length_without x l m)

-- every other member is still there
pub still_there : {X : Type 0} (x z : X) (l : List X) (m : IsIn x l) → IsIn z l → ¬ (x ≡ z) → IsIn z (without_one x l m)
unfolding without_one
still_there x z [] m i n = absurd m
still_there x z (y ∷ l) (inl e) i n = elim i [ inl q ↦ absurd (n (sym e ∙ q)) | inr k ↦ k ]
still_there x z (y ∷ l) (inr m) i n = elim i [ inl q ↦ inl q | inr k ↦ inr (still_there x z l m k n) ]

-- members of m, each once, are at most as many as m has
pub at_most : {X : Type 0} (l m : List X) → AreDistinct l → ((x : X) → IsIn x l → IsIn x m) → length l ≤ length m
at_most [] m d f = omega arith
at_most (x ∷ l) m d f =
    let i = f x (inl refl) in
    let rest = at_most l (without_one x m i) d.1 (λ z k. still_there x z m i (f z (inr k))
    (λ e. d.0 (subst (λ v. IsIn v l) (sym e) k))) in
    omega (arith, rest, length_without x m i)

-- an ascending list has each member once
pub distinct_ascending : (l : List ℕ) → IsAscending l → AreDistinct l
distinct_ascending [] a = tt
distinct_ascending (x ∷ l) a =
    (λ m. (let h = below_each x l a.0 a.1 x m in absurd (omega arith)), distinct_ascending l a.1)

-- where each stands once, the last is none of the others
pub last_apart : (l : List ℕ) (b : ℕ) → AreDistinct (l ++ b ∷ []) → AreDistinct l × ¬ (IsIn b l)
last_apart [] b d = (tt, (λ i. i))
last_apart (x ∷ l) b d =
    let r = last_apart l b d.1 in (
      ((λ i. d.0 (snoc_old l b x i)), r.0),
      (λ i. elim i [
        | inl e ↦ d.0 (subst (λ (y : ℕ). IsIn y (l ++ b ∷ [])) (sym e) (snoc_new l b))
        | inr j ↦ r.1 j
      ]),
    )

-- a filter that refuses the last keeps the others
pub without_last : (l : List ℕ) (b : ℕ) → ¬ (IsIn b l) → filter (λ x. not (x == b)) (l ++ b ∷ []) ≡ l
without_last [] b n = (λ i. cond (not (eq-eqb b b refl i)) (b ∷ []) [])
without_last (x ∷ l) b n =
    (λ i. cond (not (ne_eqb x b (λ e. n (inl e)) i)) (x ∷ filter (λ x. not (x == b)) (l ++ b ∷ []))
    (filter (λ x. not (x == b)) (l ++ b ∷ [])))
    ∙ ap (λ (m : List ℕ). x ∷ m) (without_last l b (λ i. n (inr i)))

-- no member stands in both parts
pub in_both : (l m : List ℕ) (x : ℕ) → AreDistinct (l ++ m) → IsIn x l → IsIn x m → ⊥
in_both [] m x d i j = i
in_both (y ∷ l) m x d (inl e) j = d.0 (subst (λ (k : ℕ). IsIn k (l ++ m)) (sym e) (in_right x l m j))
in_both (y ∷ l) m x d (inr i) j = in_both l m x d.1 i j

-- what follows has each once too
pub rest_distinct : (l m : List ℕ) → AreDistinct (l ++ m) → AreDistinct m
rest_distinct [] m d = d
rest_distinct (y ∷ l) m d = rest_distinct l m d.1

-- one more number that is none of them, anywhere
pub distinct_with : (l m : List ℕ) (x : ℕ) → AreDistinct (l ++ m) → ¬ (IsIn x (l ++ m)) → AreDistinct (l ++ x ∷ m)
distinct_with [] m x d n = (n, d)
distinct_with (y ∷ l) m x d n = (
  (λ i. elim (from_append y l (x ∷ m) i) [
    | inl j ↦ d.0 (in_left y l m j)
    | inr j ↦ elim j [
      | inl e ↦ n (inl (sym e))
      | inr k ↦ d.0 (in_right y l m k)
    ]
  ]),
  distinct_with l m x d.1 (λ i. n (inr i)),
)

-- a member is still there with one more in the middle
pub in_wider : (l m : List ℕ) (y x : ℕ) → IsIn x (l ++ m) → IsIn x (l ++ y ∷ m)
in_wider [] m y x i = inr i
in_wider (z ∷ l) m y x (inl e) = inl e
in_wider (z ∷ l) m y x (inr i) = inr (in_wider l m y x i)

-- and that one is a member
pub at_middle : (l m : List ℕ) (x : ℕ) → IsIn x (l ++ x ∷ m)
at_middle [] m x = inl refl
at_middle (z ∷ l) m x = inr (at_middle l m x)

-- without one in the middle each still stands once, and that one is none of them
pub distinct_less : (l m : List ℕ) (x : ℕ) → AreDistinct (l ++ x ∷ m) → AreDistinct (l ++ m) × ¬ (IsIn x (l ++ m))
distinct_less [] m x d = (d.1, d.0)
distinct_less (y ∷ l) m x d =
    let r = distinct_less l m x d.1 in (
      ((λ i. d.0 (in_wider l m x y i)), r.0),
      (λ i. elim i [
        | inl e ↦ d.0 (subst (λ (z : ℕ). IsIn z (l ++ x ∷ m)) (sym e) (at_middle l m x))
        | inr j ↦ r.1 j
      ]),
    )

-- what is left of distinct numbers is distinct
pub distinct_filter : (p : ℕ → Bool) (l : List ℕ) → AreDistinct l → AreDistinct (filter p l)
distinct_filter p [] d = tt
distinct_filter p (x ∷ l) d = by (p x) (distinct_filter p l d.1)
  where
    by : (t : Bool) → AreDistinct (filter p l) → AreDistinct (cond t (x ∷ filter p l) (filter p l))
    by true r = ((λ i. d.0 (filtered_from p l x i).0), r)
    by false r = r

-- a number below each is, by the test, none of them
pub all_above : (x : ℕ) (s : List ℕ) → ((y : ℕ) → IsIn y s → x < y) → AllByRecursion (λ y. nat_eq x y ≡ false) s
all_above x [] f = tt
all_above x (y ∷ s) f = (apart (f y (inl refl)), all_above x s (λ z i. f z (inr i)))
  where
    apart : x < y → nat_eq x y ≡ false
    apart h = grind (arith, nat_tests)

-- an ascending list has each number once, by the test
pub distinct_by_test : (s : List ℕ) → IsAscending s → IsDistinct nat_eq s
unfolding IsDistinct
distinct_by_test [] h = tt
distinct_by_test (x ∷ s) h = (all_above x s (λ y i. below_each x s h.0 h.1 y i), distinct_by_test s h.1)

-- four that are apart
pub four_once : {X : Type 0} (w x y z : X) → ¬ (x ≡ w) → ¬ (y ≡ w) → ¬ (z ≡ w) → ¬ (y ≡ x) → ¬ (z ≡ x) → ¬ (z ≡ y) →
    AreDistinct (w ∷ x ∷ y ∷ z ∷ [])
four_once w x y z xw yw zw yx zx zy = (
  λ m. elim m [ inl e ↦ xw e | inr k ↦ elim k [ inl e ↦ yw e | inr l ↦ elim l [ inl e ↦ zw e | inr none ↦ none ] ] ],
  (
    λ m. elim m [ inl e ↦ yx e | inr k ↦ elim k [ inl e ↦ zx e | inr none ↦ none ] ],
    (λ m. elim m [ inl e ↦ zy e | inr none ↦ none ], (λ none. none, tt)),
  ),
)
