-- The points of all buckets.
use Rattle.std.specs.Prelude.{◌≡◌, ℕ, ◌+◌, ◌<◌, ◌≤◌, ◌↔◌, List, ◌++◌, length, Option, None, Some, [], ◌∷◌, take}
use Rattle.std.specs.List.{flat_map}
use Rattle.std.proofs.Common.{ap, sym, ◌∙◌, add-one}
use Rattle.std.proofs.lemmas.Grind.{flat_map-append}
use Rattle.std.proofs.lemmas.List.{append-nil, take_all}
use Rattle.list_laws.proofs.Cited.{same_members, take_suc}
use Rattle.point_order.specs.Sets.{IsIn, IsAscending}
use Rattle.cell_store.specs.Buckets.{BucketContent, InHand, bucket_at}
use Rattle.cell_store.specs.Meshes.{IsWhole}
use Rattle.cell_store.specs.Shares.{Shows}
use Rattle.cell_store.proofs.Cited.{points_are, points_of_bucket}

-- in order they are the set
pub points_in : (hold : InHand) (s points : List ℕ) → IsWhole hold → Shows hold s → IsAscending points →
    ((p : ℕ) → IsIn p (flat_map points_of_bucket hold.places) ↔ IsIn p points) → points ≡ s
points_in hold s points w sh a f =
    same_members points s a sh.ascending (λ p k. (points_are hold s w sh p).0 ((f p).1 k))
    (λ p k. (f p).0 ((points_are hold s w sh p).1 k))

-- one bucket more
pub points_next : (l : List (Option BucketContent)) (n : ℕ) (x : BucketContent) (old more new : List ℕ) → n < length l →
    bucket_at l n ≡ Some x → old ≡ flat_map points_of_bucket (take n l) → more ≡ x.points → new ≡ old ++ more →
    new ≡ flat_map points_of_bucket (take (n + 1) l)
points_next l n x old more new h e o m k =
    k ∙ ap (λ (v : List ℕ). v ++ more) o ∙ ap (λ (v : List ℕ). flat_map points_of_bucket (take n l) ++ v)
    (m ∙ ap points_of_bucket (sym e)) ∙ sym next
  where
    next : flat_map points_of_bucket (take (n + 1) l) ≡ flat_map points_of_bucket (take n l) ++ points_of_bucket
        (bucket_at l n)
    next =
        ap (λ k. flat_map points_of_bucket (take k l)) (add-one n)
        ∙ ap (flat_map points_of_bucket) (take_suc l n None h)
        ∙ flat_map-append points_of_bucket (take n l) (bucket_at l n ∷ [])
        ∙ ap (λ (v : List ℕ). flat_map points_of_bucket (take n l) ++ v) (append-nil (points_of_bucket (bucket_at l n)))

-- all of them
pub points_all : (l : List (Option BucketContent)) (n : ℕ) (list : List ℕ) → length l ≤ n →
    list ≡ flat_map points_of_bucket (take n l) → list ≡ flat_map points_of_bucket l
points_all l n list h e = e ∙ ap (flat_map points_of_bucket) (take_all n l h)
