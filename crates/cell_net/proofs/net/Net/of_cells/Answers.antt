use Rattle.std.proofs.Common.{sym, ap, ◌∙◌, ◌∷◌, [], ◌++◌, List, Option, Some}
use Rattle.list_laws.proofs.Cited.{take_next}
use Rattle.point_order.specs.declared.cell.Cell.{Cell}
use Rattle.cell_slots.specs.Nets.{cells_of_slots}
use Rattle.cell_slots.proofs.Cited.{live_snoc}
use Rattle.cell_net.proofs.net.Net.of_cells.Goals as goal

pub loop-cell-preserved : goal.loop-cell-preserved
loop-cell-preserved c =
    ap cells_of_slots c.in_ok-push.ensures.items
    ∙ ap (λ (x : Option Cell). cells_of_slots (c.loop-cell.slots.items ++ x ∷ []))
    (c.new.ensures ∙ ap Some c.of.ensures)
    ∙ live_snoc c.loop-cell.slots.items c.cell-item.result ∙ ap (λ (l : List Cell). l ++ c.cell-item.result ∷ [])
    c.loop-cell.invariant
    ∙ sym (take_next c.args.cells.now c.loop-cell.cell-index c.cell-item.result c.loop-cell-test.true c.cell-item.is)
