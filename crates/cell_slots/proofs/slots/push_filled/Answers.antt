use Rattle.std.proofs.Common.{ap, sym, ◌∙◌, ◌∷◌, [], ◌++◌, Option}
use Rattle.point_order.specs.declared.cell.Cell.{Cell}
use Rattle.cell_slots.specs.Nets.{cells_of_slots}
use Rattle.cell_slots.proofs.Moving.{live_free}
use Rattle.cell_slots.proofs.slots.push_filled.Goals as goal

pub returns-then-is_empty : goal.returns-then-is_empty
returns-then-is_empty c =
    let packed = c.args.packed.now.items in
    sym (ap (λ (x : Option Cell). cells_of_slots (packed ++ x ∷ [])) (c.is_empty.ensures.0 c.if-is_empty.true)
    ∙ live_free packed)

pub returns : goal.returns
returns c =
    ap cells_of_slots c.in_ok-push.ensures.items
    ∙ ap (λ (x : Option Cell). cells_of_slots (c.args.packed.now.items ++ x ∷ [])) c.packed.ensures
