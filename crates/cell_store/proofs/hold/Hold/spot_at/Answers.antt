use Rattle.std.proofs.Common.{refl, ap, subst, sym, ◌∙◌}
use Rattle.point_order.specs.declared.cell.Cell.{Cell}
use Rattle.cell_store.specs.Buckets.{content_of}
use Rattle.bucket_grid.specs.Grids.{bucket_of}
use Rattle.hole_laws.specs.Others.{HaveNoOther, IsOtherOf}
use Rattle.cell_store.specs.Shares.{IsInHandFor, points_on}
use Rattle.cell_store.specs.Spots.{IsAcrossIn}
use Rattle.cell_store.proofs.ShareLaws.{across_there, across_is}
use Rattle.cell_store.proofs.hold.Hold.spot_at.Goals as goal

pub unreachable-requires : goal.unreachable-requires
unreachable-requires c =
    let b = content_of c.bucket-bucket.result.now in
    let held = subst (IsInHandFor c.args.self.now (points_on c.args.facet.now))
    (ap (λ g. bucket_of g c.args.p) (sym c.grid.ensures.grid) ∙ sym c.bucket_of-b.ensures.number) c.requires.held in
    across_there c.args.self.now c.args.spot.now c.args.facet.now c.bucket_of-b.result b b.cells c.requires.shown
    c.requires.facet held c.bucket-bucket.ensures.bucket refl
    (subst (λ (d : Cell). HaveNoOther b.cells d c.args.facet.now) c.cell.ensures c.in-None.ensures)

pub returns : goal.returns
returns c =
    let b = content_of c.bucket-bucket.result.now in
    let other = c.in-Some.other.cell.now in
    let is = subst (λ (d : Cell). IsOtherOf b.cells d c.args.facet.now other) c.cell.ensures c.in-Some.ensures in
    subst (IsAcrossIn c.args.self.now c.args.spot.now c.args.facet.now) (sym c.new.ensures)
    (across_is c.args.self.now c.args.spot.now c.args.facet.now c.bucket_of-b.result b b.cells other
    c.bucket-bucket.ensures.bucket refl is)
