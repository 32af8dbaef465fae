use Rattle.del_laws.proofs.Neighbours.{listed_facets}
use Rattle.del_laws.proofs.listed_facets.Goals as goal

pub returns : goal.returns
returns c = listed_facets
