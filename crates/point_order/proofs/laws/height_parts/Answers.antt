use Rattle.point_order.proofs.HeightLaws.{height_parts_law, part_rises}
use Rattle.point_order.proofs.laws.height_parts.Goals as goal

pub returns-clause-parts : goal.returns-clause-parts
returns-clause-parts c = height_parts_law

pub returns-clause-rises : goal.returns-clause-rises
returns-clause-rises c = part_rises
