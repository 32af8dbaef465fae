-- the answer for what is left is the answer for all
use Rattle.std.proofs.Common.{◌≡◌, drop}
use Rattle.mesh_check.specs.Flaws.{first_flaw, as_cells}
use Rattle.mesh_check.proofs.cells.first_flaw.Given as goal

abbrev pub invariant-loop-place : goal.invariant-loop-place
invariant-loop-place l = first_flaw l.points (as_cells (drop l.place l.cells) l.hull) ≡ first_flaw l.points
    (as_cells l.cells l.hull)
