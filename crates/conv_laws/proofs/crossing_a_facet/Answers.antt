use Rattle.conv_laws.proofs.Affine.{crossing}
use Rattle.conv_laws.proofs.crossing_a_facet.Goals as goal

pub returns : goal.returns
returns c = crossing
