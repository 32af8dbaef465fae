use Rattle.list_laws.proofs.Cited.{each_more, each_none, each_taken}
use Rattle.point_order.specs.Coordinates.{IsKey}
use Rattle.command_pages.proofs.cloud.read_keys.Goals as goal

pub loop-point-init : goal.loop-point-init
loop-point-init c = each_none IsKey c.args.points.now

pub loop-point-preserved : goal.loop-point-preserved
loop-point-preserved c =
    let p = c.point-item.result in
    each_more IsKey c.args.points.now c.loop-point.point-index p p c.loop-point-test.true c.point-item.is
    c.loop-point.invariant c.key.ensures.bound

pub returns : goal.returns
returns c = record {
  below = each_taken IsKey c.args.points.now c.loop-point.point-index c.loop-point-test.false
      c.loop-point.invariant;
}
