-- the answer for what is left is the answer for all
use Rattle.std.proofs.Common.{◌≡◌, drop}
use Rattle.std.specs.Prelude.{map}
use Rattle.point_order.specs.declared.cell.Cell.TheVariants.{Open}
use Rattle.mesh_check.specs.Flaws.{first_flaw}
use Rattle.mesh_check.proofs.cells.flaw_of_triples.Given as goal

abbrev pub invariant-loop-place : goal.invariant-loop-place
invariant-loop-place l = first_flaw l.points (map Open (drop l.place l.hull)) ≡ first_flaw l.points (map Open l.hull)
