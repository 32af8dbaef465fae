-- Of the cells of the buckets in hand, fewer are nearer after a step.
use Rattle.std.specs.Prelude.{◌≡◌, refl, ℕ, zero, suc, List, [], ◌∷◌, Option, None, Some}
use Rattle.std.proofs.Common.{sym, subst}
use Rattle.list_laws.proofs.Cited.{filtered_true, in_left, in_right}
use Rattle.point_order.specs.declared.cell.Cell.{Cell}
use Rattle.point_order.specs.declared.cell.Facet.{Facet}
use Rattle.point_order.specs.Complex.{complex}
use Rattle.point_order.specs.Facets.{facets_of, points_of}
use Rattle.point_order.specs.Sets.{IsIn}
use Rattle.del_laws.specs.Nearness.{rank}
use Rattle.del_laws.proofs.Cited.{fewer_nearer}
use Rattle.cell_store.specs.Buckets.{BucketContent, InHand, bucket_at}
use Rattle.cell_store.specs.Meshes.{all_cells}
use Rattle.cell_store.specs.Shares.{Shows, NoneInHand, IsInHandFor, points_on}
use Rattle.cell_store.specs.Swaps.{touches}
use Rattle.cell_store.proofs.Cited.{cells_of, facet_inside, flat_from, solid_set, touched}
use Rattle.cell_conflict.proofs.Cited.{not_none}
use Rattle.cell_walk.specs.Laws.{FewerAcross}
use Rattle.cell_walk.proofs.Towards.{nearer_towards}

-- a cell of a bucket in hand is one of all of them
pub in_all : (places : List (Option BucketContent)) (b : ℕ) (x : BucketContent) (c : Cell) →
    bucket_at places b ≡ Some x → IsIn c x.cells → IsIn c (all_cells places)
in_all [] b x c e i = absurd (cc e)
in_all (o ∷ l) zero x c e i = in_left c (cells_of o) (all_cells l)
    (subst (λ (v : Option BucketContent). IsIn c (cells_of v)) (sym e) i)
in_all (o ∷ l) (suc b) x c e i = in_right c (cells_of o) (all_cells l) (in_all l b x c e i)

-- a cell of the complex on a facet with a point in hand is one of them
pub held_across :
    (hold : InHand) (s : List ℕ) (f : Facet) (q : Cell) (b : ℕ) → Shows hold s → IsIn q (complex s) →
    IsIn f (facets_of q) →
    IsInHandFor hold (points_on f) b → IsIn q (all_cells hold.places)
held_across hold s f q b st m k held =
    let t = touched hold.grid held.point b q held.number (facet_inside q f held.point k held.among) in
    let i = filtered_true (touches hold.grid b) (complex s) q m t in
    in_all hold.places b held.content q held.held
    (subst (λ (l : List Cell). IsIn q l) (sym (st.sights b held.content held.held).cells) i)

-- a cell of a bucket in hand has a point whose bucket is in hand
pub not_without : (hold : InHand) (s : List ℕ) (c : Cell) → Shows hold s → IsIn c (all_cells hold.places) →
    ¬ (NoneInHand hold (points_of c))
not_without hold s c st i none =
    let r = flat_from cells_of hold.places None c i in
    by r.0 (bucket_at hold.places r.0) refl r.1
  where
    by : (b : ℕ) (o : Option BucketContent) → bucket_at hold.places b ≡ o → IsIn c (cells_of o) → ⊥
    by b None e j = j
    by b (Some x) e j = not_none hold s b c st (rw e refl)
        (subst (λ (v : Option BucketContent). IsIn c (cells_of v)) (sym e) j) none

-- the step leads to a cell than which fewer are nearer
pub fewer_across : FewerAcross
fewer_across hold s p c other f b st n k t o held =
    fewer_nearer (rank s p) c other (nearer_towards s p c other f (solid_set hold s st).set n k t o)
    (all_cells hold.places) (held_across hold s f other b st o.listed o.has held)
