use Rattle.cell_store.proofs.RoomLaws.{AreMadeFirst}
use Rattle.cell_store.proofs.room.turn_all.Given as goal

abbrev pub invariant-loop-item : goal.invariant-loop-item
invariant-loop-item l = AreMadeFirst l.turned l.fn.plans l.plans l.fn.places l.places l.item-index
