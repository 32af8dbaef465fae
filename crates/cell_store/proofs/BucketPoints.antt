-- The points of all buckets.
use Rattle.std.specs.List.{flat_map}
use Rattle.std.specs.Option.{option_map_or}
use Rattle.std.specs.Prelude.{List, None, Option, Some, [], refl, ℕ, ◌<◌, ◌==◌, ◌↔◌, ◌≡◌}
use Rattle.std.proofs.Common.{subst, sym}
use Rattle.list_laws.specs.Lists.{IsIn}
use Rattle.list_laws.proofs.Cited.{eq_same, filtered_from, filtered_true, some_of}
use Rattle.bucket_grid.specs.Grids.{bucket_of}
use Rattle.bucket_grid.proofs.Cited.{bucket_below}
use Rattle.cell_store.specs.Buckets.{BucketContent, InHand, bucket_at}
use Rattle.cell_store.specs.Meshes.{IsWhole}
use Rattle.cell_store.specs.Shares.{Shows}
use Rattle.cell_store.proofs.MeshLaws.{flat_from, in_flat, point_held}

-- the points of a bucket
abbrev pub points_of_bucket : Option BucketContent → List ℕ
points_of_bucket o = option_map_or (λ c. c.points) o []

-- the points of all buckets are those of the set that is shown
pub points_are : (hold : InHand) (s : List ℕ) → IsWhole hold → Shows hold s → (p : ℕ) →
    IsIn p (flat_map points_of_bucket hold.places) ↔ IsIn p s
points_are hold s w sh p = (forth, back)
  where
    known : (b : ℕ) (o : Option BucketContent) → bucket_at hold.places b ≡ o → IsIn p (points_of_bucket o) → IsIn p s
    known b None e k = absurd k
    known b (Some x) e k = (filtered_from (λ q. bucket_of hold.grid q ==
        b) s p (subst (λ (l : List ℕ). IsIn p l) ((sh.sights b x e).points) k)).0

    forth : IsIn p (flat_map points_of_bucket hold.places) → IsIn p s
    forth k = let r = flat_from points_of_bucket hold.places None p k in known r.0 (bucket_at hold.places r.0) refl r.1

    back : IsIn p s → IsIn p (flat_map points_of_bucket hold.places)
    back k =
        let b = bucket_of hold.grid p in
        let x = some_of (bucket_at hold.places b) (point_held hold p w.has w.all) in
        let j = filtered_true (λ q. bucket_of hold.grid q == b) s p k (eq_same b) in
        in_flat points_of_bucket hold.places b None p
        (subst (λ n. b < n) (sym w.has.places) (bucket_below hold.grid p w.has.size))
        (subst (λ o. IsIn p (points_of_bucket o)) (sym x.1)
        (subst (λ (l : List ℕ). IsIn p l) (sym (sh.sights b x.0 x.1).points) j))
