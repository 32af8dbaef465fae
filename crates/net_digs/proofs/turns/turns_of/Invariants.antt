use Rattle.std.proofs.Common.{◌∷◌, [], take}
use Rattle.cell_slots.specs.Parts.{AreOthers}
use Rattle.net_digs.proofs.turns.turns_of.Given as goal

abbrev pub invariant-loop-p : goal.invariant-loop-p
invariant-loop-p l = AreOthers (l.a ∷ l.b ∷ l.c ∷ l.d ∷ []) (take l.p-index l.points) l.turns.items
