use Rattle.conv_laws.proofs.Spheres.{heights_are_linear, affine_change}
use Rattle.conv_laws.proofs.change_of_heights.Goals as goal

pub returns-clause-linear : goal.returns-clause-linear
returns-clause-linear c = heights_are_linear

pub returns-clause-affine : goal.returns-clause-affine
returns-clause-affine c = affine_change
