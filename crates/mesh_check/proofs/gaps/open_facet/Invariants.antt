-- the triples below the key so far are of two cells each
use Rattle.mesh_check.specs.Flaws.{as_cells}
use Rattle.mesh_check.proofs.Parts.{TwoBelow}
use Rattle.mesh_check.proofs.gaps.open_facet.Given as goal

abbrev pub invariant-loop-part : goal.invariant-loop-part
invariant-loop-part l = TwoBelow (as_cells l.cells l.hull) l.low
