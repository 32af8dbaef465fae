use Rattle.point_order.proofs.text.CellDisplay.fmt.Goals as goal

-- src/text.rt
pub returns-in-Full-clause-writes : goal.returns-in-Full-clause-writes
returns-in-Full-clause-writes g c p o = rw c.in-Full.is (c.fmt.ensures.writes p o)

pub returns-in-Open-clause-writes : goal.returns-in-Open-clause-writes
returns-in-Open-clause-writes g c p o = rw (c.in-Open.is, c.corners-a.ensures.points) (c.put_points.ensures p o)
