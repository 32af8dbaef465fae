use Rattle.point_order.proofs.HeightLaws.{never_zero_law}
use Rattle.point_order.proofs.laws.never_zero.Goals as goal

pub returns : goal.returns
returns c = never_zero_law
