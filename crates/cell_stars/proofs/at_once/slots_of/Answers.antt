use Rattle.std.proofs.Common.{◌∙◌, ap, Option, Some, ◌++◌, ◌∷◌, []}
use Rattle.point_order.specs.declared.cell.Cell.{Cell}
use Rattle.cell_stars.proofs.AtOnce.{map_all, map_more}
use Rattle.cell_stars.proofs.at_once.slots_of.Goals as goal

pub loop-number-preserved : goal.loop-number-preserved
loop-number-preserved c =
    map_more (λ (x : Cell). Some x) c.args.cells.now c.loop-number.number c.index-cells-number.result
    c.loop-number.slots.items c.push.new.self.items c.loop-number-test.true c.index-cells-number.is
    (c.in_ok-push.ensures.items ∙ ap (λ (s : Option Cell). c.loop-number.slots.items ++ s ∷ []) c.linked_slot.ensures)
    c.loop-number.invariant

pub returns : goal.returns
returns c =
    map_all (λ (x : Cell). Some x) c.args.cells.now c.loop-number.number c.loop-number.slots.items
    c.loop-number-test.false c.loop-number.invariant
