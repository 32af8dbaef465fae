use Rattle.cell_store.proofs.StarLaws.{StillToCome}
use Rattle.cell_stars.specs.Stars.{cells_around}
use Rattle.cell_store.proofs.star.other_among.Given as goal

abbrev pub invariant-loop-c : goal.invariant-loop-c
invariant-loop-c l = StillToCome l.cell l.facet (cells_around l.initial.around) (cells_around l.around)
