use Rattle.std.proofs.Common.{◌∙◌, ap, sym, Option, ◌++◌, ◌∷◌}
use Rattle.point_order.specs.declared.cell.Cell.{Cell}
use Rattle.cell_slots.specs.Nets.{cells_of_slots}
use Rattle.cell_slots.proofs.WholePages.{free_between}
use Rattle.cell_slots.proofs.slots.push_free.Goals as goal

pub returns-clause-cells : goal.returns-clause-cells
returns-clause-cells c =
    let p = c.in_ok-push.ensures.pushed in
    ap cells_of_slots p.3 ∙ ap (λ (x : Option Cell). cells_of_slots (p.0 ++ x ∷ p.1)) c.free.ensures
    ∙ free_between p.0 p.1 ∙ sym (ap cells_of_slots p.2)
