use Rattle.std.proofs.Common.{◌≡◌, map, take}
use Rattle.hole_laws.specs.Lists.{cell_over}
use Rattle.cavity.proofs.fill_hole.cells_of.Given as goal

abbrev pub invariant-loop-facet : goal.invariant-loop-facet
invariant-loop-facet l = l.cells.items ≡ map (λ f. cell_over f l.p) (take l.facet-index l.facets)
