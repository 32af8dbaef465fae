use Rattle.std.proofs.Common.{◌∙◌}
use Rattle.mesh_check.proofs.Places.{place_put}
use Rattle.mesh_check.proofs.text.put_places.Goals as goal

pub loop-point-preserved : goal.loop-point-preserved
loop-point-preserved c =
    place_put c.args.text.now.items c.loop-point.text.items c.extend_from_slice.new.self.items
    c.extend_from_slice-in-loop-point.new.self.items c.as_bytes.result.now c.args.indices.now c.args.points.now
    c.loop-point.point-index c.point-item.result c.index.result c.in_ok-extend_from_slice-2.ensures.items
    c.in_ok-extend_from_slice.ensures.items c.loop-point.invariant (c.as_bytes.ensures.value ∙ c.format.ensures.text)
    c.index.ensures c.loop-point-test.true c.point-item.is
