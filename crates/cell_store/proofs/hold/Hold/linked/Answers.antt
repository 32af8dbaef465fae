use Rattle.std.proofs.Common.{refl, subst, sym}
use Rattle.point_order.specs.declared.cell.Cell.{Cell}
use Rattle.cell_store.specs.Buckets.{content_of}
use Rattle.hole_laws.specs.Others.{IsOtherOf}
use Rattle.cell_store.specs.Spots.{IsAcrossIn}
use Rattle.cell_store.proofs.ShareLaws.{across_is}
use Rattle.cell_store.proofs.hold.Hold.linked.Goals as goal

pub returns-in-Some : goal.returns-in-Some
returns-in-Some c =
    let b = content_of c.bucket-bucket.result.now in
    let other = c.in-Some.other.now in
    let is = subst (λ (d : Cell). IsOtherOf b.cells d c.args.facet.now other) c.cell-2.ensures c.in-Some.ensures in
    subst (IsAcrossIn c.args.self.now c.args.spot.now c.args.facet.now) (sym c.new.ensures)
    (across_is c.args.self.now c.args.spot.now c.args.facet.now c.bucket-b.result b b.cells other
    c.bucket-bucket.ensures.bucket refl is)
