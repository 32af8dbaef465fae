-- The point that is taken, and the cells that fill its hole, in a hold of buckets.
use Rattle.std.specs.Prelude.{ℕ, List, ◌==◌, IsSome}
use Rattle.std.proofs.Common.{refl, sym, subst, ◌∙◌}
use Rattle.std.proofs.lemmas.Bool.{eq-eqb}
use Rattle.list_laws.proofs.Cited.{filtered_from, filtered_true, some_of}
use Rattle.point_order.specs.declared.cell.Cell.{Cell}
use Rattle.point_order.specs.Sets.{IsIn}
use Rattle.hole_laws.specs.Edits.{IsSet}
use Rattle.hole_laws.proofs.Cited.{coming_are_near}
use Rattle.bucket_grid.specs.Grids.{bucket_of}
use Rattle.cell_store.specs.Buckets.{InHand, bucket_at}
use Rattle.cell_store.specs.Ready.{AreHeld}
use Rattle.cell_store.specs.Shares.{Shows}
use Rattle.cell_changes.specs.Changes.{IsRefilled}

-- a point whose bucket is in hand is in each set that the hold shows, or in none
pub still_there : (hold : InHand) (h k : List ℕ) (v : ℕ) → Shows hold h → Shows hold k →
    IsSome (bucket_at hold.places (bucket_of hold.grid v)) → IsIn v h → IsIn v k
still_there hold h k v st sk o m =
    let b = bucket_of hold.grid v in
    let x = some_of (bucket_at hold.places b) o in
    let i = filtered_true (λ p. bucket_of hold.grid p == b) h v m (eq-eqb b b refl) in
    let e = sym (st.sights b x.0 x.1).points ∙ (sk.sights b x.0 x.1).points in
    (filtered_from (λ p. bucket_of hold.grid p == b) k v (subst (λ (l : List ℕ). IsIn v l) e i)).0

-- the buckets of the fresh cells are in hand with those of the cells at v
pub fresh_held : (hold : InHand) (s : List ℕ) (v : ℕ) (gone fresh : List Cell) → IsSet s → IsIn v s →
    IsRefilled s v gone fresh → AreHeld hold gone → AreHeld hold fresh
fresh_held hold s v gone fresh i m f held c j e k =
    let r = f.change.came c j in
    let q = coming_are_near s v i m f.solid c (record { before = r.0; after = r.1 }) e k in
    held q.q ((f.star q.q).1 (q.listed, q.has_p)) e q.has_e
