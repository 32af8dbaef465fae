use Rattle.std.proofs.Common.{◌≡◌, ◌∷◌, ◌++◌, ◌∙◌, Some, ap, Option}
use Rattle.point_order.specs.declared.cell.Cell.{Cell}
use Rattle.cell_slots.proofs.Nets.{live_put}
use Rattle.cell_slots.proofs.WholePages.{with_between}
use Rattle.cell_slots.proofs.slots.put_in.Goals as goal

pub returns-then-is_free : goal.returns-then-is_free
returns-then-is_free c =
    let r = c.is_free.ensures c.if-is_free.true in
    rw c.fill.ensures (live_put c.args.slots.now c.args.hint c.args.cell.now r.0 r.1)

pub returns : goal.returns
returns c =
    let p = c.in_ok-place.ensures.pushed in
    let cell = c.args.cell.now in
    let new : c.push.new.self ≡ p.0 ++ Some cell ∷ p.1 =
    p.3 ∙ ap (λ (x : Option Cell). p.0 ++ x ∷ p.1) c.new.ensures in
    rw (p.2, new) (with_between p.0 p.1 cell)
