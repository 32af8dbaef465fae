use Rattle.point_order.proofs.text.FacetDisplay.fmt.Goals as goal

-- src/text.rt
pub returns-in-Three-clause-writes : goal.returns-in-Three-clause-writes
returns-in-Three-clause-writes g c p o = rw c.in-Three.is (c.fmt.ensures.writes p o)

pub returns-in-Two-clause-writes : goal.returns-in-Two-clause-writes
returns-in-Two-clause-writes g c p o = rw (c.in-Two.is, c.corners-a.ensures.points) (c.put_points.ensures p o)
