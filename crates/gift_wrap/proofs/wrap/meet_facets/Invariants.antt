use Rattle.std.proofs.Common.{take}
use Rattle.gift_wrap.specs.Wraps.{AreMet}
use Rattle.gift_wrap.proofs.wrap.meet_facets.Given as goal

abbrev pub invariant-loop-facet : goal.invariant-loop-facet
invariant-loop-facet l = AreMet (take l.facet-index l.facet-items) l.initial.sides.items l.sides.items
