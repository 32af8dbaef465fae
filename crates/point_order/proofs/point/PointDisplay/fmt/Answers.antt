use Rattle.std.proofs.Common.{append_assoc}
use Rattle.point_order.proofs.Readings.{coordinate_read}
use Rattle.point_order.proofs.point.PointDisplay.fmt.Goals as goal

-- src/point.rt
pub returns-clause-writes : goal.returns-clause-writes
returns-clause-writes g c p o =
    let x = coordinate_read c.x.ensures.value c.x.ensures.bound in
    let y = coordinate_read c.y.ensures.value c.y.ensures.bound in
    let z = coordinate_read c.z.ensures.value c.z.ensures.bound in
    let written = rw (x, y, z) at (c.write.ensures.writes p o) in
    simp append_assoc written
