use Rattle.std.proofs.Common.{sym, subst, ◌∙◌, List, [], ◌∷◌}
use Rattle.point_order.specs.declared.cell.Cell.{Cell}
use Rattle.cell_slots.specs.Clouds.{AreCellsOf}
use Rattle.net_digs.proofs.FourCells.{cells_of_five}
use Rattle.net_digs.proofs.opening.cells_of_four.Goals as goal

pub returns : goal.returns
returns c =
    let r = c.requires in
    subst (λ (l : List Cell). AreCellsOf (c.args.a ∷ c.args.b ∷ c.args.c ∷ c.args.d ∷ []) l)
    (sym (c.in_ok-cells.ensures.items ∙ c.five_of-five.ensures))
    (cells_of_five c.args.a c.args.b c.args.c c.args.d r.first r.second r.third c.key.ensures.bound
    c.key-2.ensures.bound c.key-3.ensures.bound c.key-4.ensures.bound r.independent)
