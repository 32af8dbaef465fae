use Rattle.conv_laws.proofs.Affine.{three_terms}
use Rattle.conv_laws.proofs.three_term_relation.Goals as goal

pub returns : goal.returns
returns c = three_terms
