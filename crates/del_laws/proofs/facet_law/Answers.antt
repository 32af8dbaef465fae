use Rattle.del_laws.proofs.Facets.{facet_law}
use Rattle.del_laws.proofs.facet_law.Goals as goal

pub returns : goal.returns
returns c = facet_law
