use Rattle.std.proofs.Common.{ap, subst, ◌∙◌}
use Rattle.list_laws.proofs.Cited.{at_place}
use Rattle.bucket_grid.specs.Grids.{bucket_of}
use Rattle.cell_store.specs.Shares.{IsInHandFor}
use Rattle.cell_store.proofs.ShareLaws.{in_hand_for, none_more_in_hand}
use Rattle.cell_store.proofs.hold.Hold.point_among.Goals as goal

pub returns-then-has : goal.returns-then-has
returns-then-has c =
    let m = at_place c.args.points.now c.loop-p.p-index c.p-item.result c.p-item.result c.loop-p-test.true c.p-item.is
    in (
      m,
      subst (IsInHandFor c.args.self.now c.args.points.now) (c.bucket_of-b.ensures.number
          ∙ ap (λ g. bucket_of g c.p-item.result) c.grid-grid.ensures.grid)
          (in_hand_for c.args.self.now c.args.points.now c.grid-grid.result c.p-item.result c.bucket_of-b.result
          c.has.result c.grid-grid.ensures.grid c.bucket_of-b.ensures.number m c.has.ensures c.if-has.true),
    )

pub loop-p-preserved : goal.loop-p-preserved
loop-p-preserved c =
    none_more_in_hand c.args.self.now c.args.points.now c.loop-p.p-index c.grid-grid.result c.p-item.result
    c.bucket_of-b.result c.has.result c.loop-p-test.true c.p-item.is c.grid-grid.ensures.grid
    c.bucket_of-b.ensures.number c.has.ensures c.if-has.false c.loop-p.invariant
