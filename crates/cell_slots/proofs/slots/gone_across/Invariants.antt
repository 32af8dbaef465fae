use Rattle.std.proofs.Common.{take}
use Rattle.hole_laws.specs.Others.{HaveNoOther}
use Rattle.cell_slots.proofs.slots.gone_across.Given as goal

abbrev pub invariant-loop-spot : goal.invariant-loop-spot
invariant-loop-spot l = HaveNoOther (take l.spot-index l.gone) l.cell l.facet
