-- the triples before the place are done
use Rattle.solid_parts.proofs.Linking.{TriplesSoFar}
use Rattle.solid_parts.proofs.links.all_links.Given as goal

abbrev pub invariant-loop-index : goal.invariant-loop-index
invariant-loop-index l = TriplesSoFar l.faces l.leasts l.index l.links.items
