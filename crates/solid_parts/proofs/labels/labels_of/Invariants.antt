-- the triples before the place are done
use Rattle.solid_parts.proofs.Paths.{LeadToLabels}
use Rattle.solid_parts.proofs.labels.labels_of.Given as goal

abbrev pub invariant-loop-index : goal.invariant-loop-index
invariant-loop-index l = LeadToLabels l.faces l.marks l.index l.leads.items
