use Rattle.std.proofs.Common.{sym}
use Rattle.cell_stars.proofs.Turned.{turned_back, turn_same, was_same}
use Rattle.cell_stars.proofs.cells.Cells.turn_back.Goals as goal

pub invariant_of-self : goal.invariant_of-self
invariant_of-self c =
    (turned_back c.self.inside.place _ _ _ _ _ _ _ _ _ _ _ _ _ _ _ _ _ _
    (was_same _ _ _ _ (sym c.plan.view_is) (sym c.self.view_is) c.requires) c.turn_back_slots.ensures
    c.turn_back_part.ensures c.turn_back_part-2.ensures).before

pub returns : goal.returns
returns c =
    turn_same _ _ _ _ _ _ _ _ (sym c.turn_numbers.ensures.plan) (sym c.turn_numbers.ensures.cells) c.plan.view_is
    c.self.view_is
    (turned_back c.self.inside.place _ _ _ _ _ _ _ _ _ _ _ _ _ _ _ _ _ _
    (was_same _ _ _ _ (sym c.plan.view_is) (sym c.self.view_is) c.requires) c.turn_back_slots.ensures
    c.turn_back_part.ensures c.turn_back_part-2.ensures)
