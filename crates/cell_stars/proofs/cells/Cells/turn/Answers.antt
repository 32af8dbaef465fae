use Rattle.cell_stars.proofs.Planned.{allows_same}
use Rattle.cell_stars.proofs.Turned.{turn_stars, turned}
use Rattle.cell_stars.proofs.cells.Cells.turn.Goals as goal

pub invariant_of-self : goal.invariant_of-self
invariant_of-self c =
    turn_stars _ _ _ _ (turned c.self.inside.place _ _ _ _ _ _ _ _ _ _ _ _ _ _ _ _ _ _ c.self.invariant
    (allows_same _ _ _ _ c.plan.view_is c.self.view_is c.requires) c.turn_slots.ensures c.turn_part.ensures
    c.turn_part-2.ensures)
