use Rattle.std.proofs.Common.{◌≡◌, ◌∙◌, ap, arith, length}
use Rattle.mesh_rows.proofs.Alphas.{TellsPoint, points_mapped, points_told}
use Rattle.mesh_rows.proofs.RowLaws.{push_each}
use Rattle.mesh_rows.proofs.levels.alphas_of_points.Goals as goal

pub loop-index-preserved : goal.loop-index-preserved
loop-index-preserved c =
    push_each (TellsPoint c.args.known.now.faces.now) c.loop-index.alphas.items
    c.push.new.self.items c.point.result c.loop-index.index c.in_ok-push.ensures.items c.loop-index.invariant
    c.point.ensures.told

pub returns : goal.returns
returns c s h =
    let all : c.loop-index.index ≡ length c.points-count.result.now =
    omega (arith, c.loop-index-test.false, c.loop-index.auto.index-end) in
    points_told s c.args.known.now.faces.now c.loop-index.alphas.items c.loop-index.index h
    (all ∙ ap length (c.points-count.ensures ∙ points_mapped s _ h))
    c.loop-index.invariant.0 c.loop-index.invariant.1
