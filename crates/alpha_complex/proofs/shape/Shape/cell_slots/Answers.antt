use Rattle.std.proofs.Common.{◌∙◌}
use Rattle.alpha_complex.proofs.SlotLaws.{cells_as_seen}
use Rattle.alpha_complex.proofs.shape.Shape.cell_slots.Goals as goal

pub returns : goal.returns
returns c = c.len.ensures ∙ c.self.inside.cells.ok.0
    ∙ cells_as_seen c.self.inside c.args.self.now c.self.invariant c.self.view_is
