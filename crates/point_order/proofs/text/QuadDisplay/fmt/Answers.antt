use Rattle.point_order.proofs.text.QuadDisplay.fmt.Goals as goal

-- src/text.rt
pub returns-clause-writes : goal.returns-clause-writes
returns-clause-writes g c p o = rw c.corners-a.ensures.points (c.put_points.ensures p o)
