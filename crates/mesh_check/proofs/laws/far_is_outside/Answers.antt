use Rattle.mesh_check.proofs.Boxes.{far_box_is_outside, far_is_outside}
use Rattle.mesh_check.proofs.laws.far_is_outside.Goals as goal

pub returns-clause-point : goal.returns-clause-point
returns-clause-point c = far_is_outside

pub returns-clause-box_of_points : goal.returns-clause-box_of_points
returns-clause-box_of_points c = far_box_is_outside
