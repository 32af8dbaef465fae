-- A bucket in hand has no more vertices with a star than points, where the hold shows a set.
use Rattle.std.specs.Prelude.{◌≡◌, ℕ, ◌≤◌, true, List, [], Option, Some, map, length, ◌==◌}
use Rattle.std.specs.Option.{option_map_or}
use Rattle.std.proofs.Common.{sym, ◌∙◌, ap, subst}
use Rattle.std.proofs.lemmas.List.{length-map}
use Rattle.list_laws.proofs.Cited.{at_most, filtered_from, filtered_true, mapped_from}
use Rattle.point_order.specs.Complex.{complex}
use Rattle.point_order.specs.Sets.{IsIn}
use Rattle.del_laws.proofs.Cited.{listed_inside, listed_is_cell}
use Rattle.cell_stars.specs.Places.{AreStars, all_keys, cells_of, lies_in, live}
use Rattle.cell_stars.proofs.Cited.{in_own, keys_apart, live_at, withs_new}
use Rattle.bucket_grid.specs.Grids.{bucket_of}
use Rattle.cell_store.specs.Buckets.{BucketContent, InHand, Layout, bucket_at, content_of, points_at}
use Rattle.cell_store.specs.Shares.{Shows, ShowsSome}
use Rattle.cell_store.specs.Swaps.{touches}

-- a vertex with a star is a point of the bucket
vertex_inside : (hold : InHand) (s : List ℕ) (b : ℕ) (o : Layout) → Shows hold s →
    bucket_at hold.places b ≡ Some (content_of o) → o.cells.place ≡ Some (hold.grid, b) → AreStars o.cells → (p : ℕ) →
    IsIn p (map (λ k. k.0) (all_keys o.cells.keys)) → IsIn p o.points
unfolding cells_of
vertex_inside hold s b o sh e at stars p m =
    let key = mapped_from (λ k. k.0) p (all_keys o.cells.keys) m in
    let star = stars.filled key.0 (in_own o.cells.keys stars.order key.0 key.1) in
    let named = stars.names key.0.0 star.0 star.1 in
    let sight = sh.sights b (content_of o) e in
    let held = withs_new (live o.cells.slots) [] named.cell (live_at o.cells.slots star.0 named.cell named.there) in
    let cell = (filtered_from (touches hold.grid b) (complex s) named.cell (subst (IsIn named.cell) sight.cells held)).0
    in
    let point = listed_inside s named.cell (listed_is_cell s named.cell sh.ascending cell) key.0.0 named.has in
    let inside = subst (λ w. lies_in w key.0.0 ≡ true) at named.inside in
    subst (λ q. IsIn q o.points) key.2
    (subst (IsIn key.0.0) (sym sight.points) (filtered_true (λ q. bucket_of hold.grid q == b) s key.0.0 point inside))

-- there are no more of them than points in the bucket of a point
pub keys_within : (hold : InHand) (g b p : ℕ) (o : Layout) → ShowsSome hold → g ≡ hold.grid → b ≡ bucket_of g p →
    bucket_at hold.places b ≡ Some (content_of o) → o.cells.place ≡ Some (hold.grid, b) → AreStars o.cells →
    length (all_keys o.cells.keys) ≤ length (points_at hold.places (bucket_of hold.grid p))
keys_within hold g b p o shows e f h at stars =
    let keys = all_keys o.cells.keys in
    let most = at_most (map (λ k. k.0) keys) o.points (keys_apart o.cells.keys stars.order)
    (vertex_inside hold shows.0 b o shows.1 h at stars) in
    subst (λ (n : ℕ). length keys ≤ length (points_at hold.places n)) (f ∙ ap (λ n. bucket_of n p) e)
    (subst (λ (c : Option BucketContent). length keys ≤ length (option_map_or (λ c. c.points) c [])) (sym h)
    (subst (λ (n : ℕ). n ≤ length o.points) (length-map keys (λ k. k.0)) most))
