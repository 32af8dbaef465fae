-- The points of all buckets, gathered bucket by bucket.
use Rattle.std.specs.Prelude.{◌≡◌, ◌⊎◌, ◌↔◌, ℕ, zero, suc, ◌+◌, ◌<◌, ◌≤◌, List, [], ◌∷◌, length, take, Option, Some}
use Rattle.std.specs.Prelude.{slice_index_or}
use Rattle.std.specs.List.{flat_map}
use Rattle.std.proofs.Common.{refl, sym, ◌∙◌, subst, inl, inr, arith}
use Rattle.std.proofs.lemmas.List.{take_all}
use Rattle.list_laws.proofs.Cited.{from_append, in_left, in_more, in_right, last_one, more_one, same_members}
use Rattle.point_order.specs.Sets.{IsIn, IsAscending}
use Rattle.edit_history.specs.declared.history.Edit.TheVariants.{Add}
use Rattle.edit_history.specs.Edits.{after}
use Rattle.cell_store.specs.Buckets.{BucketContent, InHand, bucket_at}
use Rattle.cell_store.specs.Shares.{Shows}
use Rattle.cell_store.specs.Meshes.{AllInHand, HasPlaces, IsWhole}
use Rattle.cell_store.proofs.Cited.{points_are, points_of_bucket}
use Rattle.claim_rule.specs.Trials.{HasBoth}
use Rattle.claim_rule.proofs.Trials.{added}

-- ---- one list more

-- of the first n + 1 elements each is one of the first n, or that at place n
in_taken : (l : List ℕ) (n d p : ℕ) → n < length l → IsIn p (take (suc n) l)
    ↔ (IsIn p (take n l) ⊎ (slice_index_or l n d ≡ p))
in_taken l n d p h = (
  λ m. in_more l n (slice_index_or l n d) d p h refl m,
  λ k. elim k [
    | inl m ↦ more_one l n p m
    | inr e ↦ subst (λ v. IsIn v (take (suc n) l)) e (last_one l n (slice_index_or l n d) d h refl)
  ],
)

-- one point more
pub one_more : (s t u l : List ℕ) (n x : ℕ) → n < length l → x ≡ slice_index_or l n x → HasBoth s (take n l) t →
    u ≡ after t (Add x) → HasBoth s (take (n + 1) l) u
one_more s t u l n x h e b is p =
    let q : n + 1 ≡ suc n = omega arith in
    let more = subst (λ (m : ℕ). IsIn p (take m l) ↔ (IsIn p (take n l) ⊎ (slice_index_or l n x ≡ p))) (sym q)
    (in_taken l n x p h) in
    let new = subst (λ (v : List ℕ). IsIn p v ↔ (IsIn p t ⊎ (x ≡ p))) (sym is) (added x t p) in (
      (λ i. elim (new.0 i) [
        | inl j ↦ elim ((b p).0 j) [
          | inl k ↦ inl k
          | inr k ↦ inr (more.1 (inl k))
        ]
        | inr k ↦ inr (more.1 (inr (sym e ∙ k)))
      ]),
      (λ k. elim k [
        | inl i ↦ new.1 (inl ((b p).1 (inl i)))
        | inr i ↦ elim (more.0 i) [
          | inl j ↦ new.1 (inl ((b p).1 (inr j)))
          | inr k ↦ new.1 (inr (e ∙ k))
        ]
      ]),
    )

-- with all points of the list, the set has what it had and those of the list
pub all_more : (s t l : List ℕ) (n : ℕ) → length l ≤ n → HasBoth s (take n l) t → HasBoth s l t
all_more s t l n h b = subst (λ (m : List ℕ). HasBoth s m t) (take_all n l h) b

-- ---- bucket by bucket

-- the set has the points of the buckets below b
abbrev pub HasBelow : List (Option BucketContent) → ℕ → List ℕ → Type 0
HasBelow places b s = (p : ℕ) → IsIn p s ↔ IsIn p (flat_map points_of_bucket (take b places))

-- a point of the buckets below n + 1 is one of those below n, or of bucket n
in_next : (l : List (Option BucketContent)) (n : ℕ) (p : ℕ) → n < length l →
    IsIn p (flat_map points_of_bucket (take (suc n) l)) ↔ (IsIn p (flat_map points_of_bucket (take n l))
    ⊎ IsIn p (points_of_bucket (bucket_at l n)))
in_next [] n p h = absurd (omega arith)
in_next (o ∷ l) zero p h = (
  (λ i. elim (from_append p (points_of_bucket o) [] i) [
    | inl j ↦ inr j
    | inr j ↦ absurd j
  ]),
  (λ k. elim k [
    | inl j ↦ absurd j
    | inr j ↦ in_left p (points_of_bucket o) [] j
  ]),
)
in_next (o ∷ l) (suc n) p h =
    let r = in_next l n p (omega arith) in
    let a = points_of_bucket o in
    let m = flat_map points_of_bucket (take (suc n) l) in
    let k = flat_map points_of_bucket (take n l) in (
      (λ i. elim (from_append p a m i) [
        | inl j ↦ inl (in_left p a k j)
        | inr j ↦ elim (r.0 j) [
          | inl x ↦ inl (in_right p a k x)
          | inr x ↦ inr x
        ]
      ]),
      (λ x. elim x [
        | inl i ↦ elim (from_append p a k i) [
          | inl j ↦ in_left p a m j
          | inr j ↦ in_right p a m (r.1 (inl j))
        ]
        | inr j ↦ in_right p a m (r.1 (inr j))
      ]),
    )

-- one bucket more
pub bucket_more : (places : List (Option BucketContent)) (b : ℕ) (c : BucketContent) (s t : List ℕ) →
    b < length places → bucket_at places b ≡ Some c → HasBelow places b s → HasBoth s c.points t →
    HasBelow places (b + 1) t
bucket_more places b c s t h e below both p =
    let q : b + 1 ≡ suc b = omega arith in
    let next = subst (λ (o : Option BucketContent). IsIn p (flat_map points_of_bucket (take (suc b) places))
    ↔ (IsIn p (flat_map points_of_bucket (take b places)) ⊎ IsIn p (points_of_bucket o))) e
    (in_next places b p h) in
    subst (λ (m : ℕ). IsIn p t ↔ IsIn p (flat_map points_of_bucket (take m places))) (sym q) (
      (λ i. elim ((both p).0 i) [
        | inl j ↦ next.1 (inl ((below p).0 j))
        | inr j ↦ next.1 (inr j)
      ]),
      (λ i. elim (next.0 i) [
        | inl j ↦ (both p).1 (inl ((below p).1 j))
        | inr j ↦ (both p).1 (inr j)
      ]),
    )

-- with all buckets the set is the one that is shown
pub gathered : (hold : InHand) (b : ℕ) (set s : List ℕ) → HasPlaces hold → AllInHand hold → length hold.places ≤ b →
    HasBelow hold.places b set → IsAscending set → Shows hold s → set ≡ s
gathered hold b set s has all h below order sh =
    let w : IsWhole hold = record { has = has; all = all } in
    let e : take b hold.places ≡ hold.places = take_all b hold.places h in
    same_members set s order sh.ascending
    (λ p i. (points_are hold s w sh p).0 (subst (λ (l : List (Option BucketContent)). IsIn p
    (flat_map points_of_bucket l)) e ((below p).0 i)))
    (λ p i. (below p).1 (subst (λ (l : List (Option BucketContent)). IsIn p (flat_map points_of_bucket l)) (sym e)
    ((points_are hold s w sh p).1 i)))
