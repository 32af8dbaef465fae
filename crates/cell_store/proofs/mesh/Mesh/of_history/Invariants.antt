use Rattle.cell_store.specs.Wholes.{ArePartsFrom, HasFirst}
use Rattle.cell_store.proofs.mesh.Mesh.of_history.Given as goal

abbrev pub invariant-loop-b : goal.invariant-loop-b
invariant-loop-b l =
    ArePartsFrom l.grid l.b l.entries l.cells l.parts × HasFirst l.grid l.b l.entries l.hold
