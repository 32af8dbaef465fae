use Rattle.std.proofs.Common.{◌≡◌, ◌++◌, ◌∷◌, [], Option, append-nil, get_or, subst, sym}
use Rattle.point_order.specs.declared.cell.Cell.{Cell}
use Rattle.cell_stars.proofs.Planned.{changes_are, freeing_more, putting_more}
use Rattle.cell_stars.proofs.planner.changes.Goals as goal

pub loop-i-init : goal.loop-i-init
loop-i-init c = c.in_ok-list.ensures.items

pub loop-i-preserved : goal.loop-i-preserved
loop-i-preserved c =
    freeing_more c.deref-i-items.result.now c.loop-i.i-index c.loop-i.list.items c.push.new.self.items
    c.loop-i-test.true
    (subst (λ (s : Option Cell). c.push.new.self.items ≡ c.loop-i.list.items ++ (
      get_or c.deref-i-items.result.now
          c.loop-i.i-index 0,
      s,
    ) ∷ []) c.new.ensures c.in_ok-push.ensures.items) c.loop-i.invariant

pub loop-n-init : goal.loop-n-init
loop-n-init c = sym (append-nil c.loop-i.list.items)

pub loop-n-preserved : goal.loop-n-preserved
loop-n-preserved c =
    putting_more c.deref-n-items.result.now c.loop-n.n-index c.loop-n-item.result c.loop-i.list.items
    c.loop-n.list.items c.push-in-loop-n.new.self.items c.loop-n-test.true c.loop-n-item.is
    (subst (λ (s : Option Cell). c.push-in-loop-n.new.self.items ≡ c.loop-n.list.items ++ (c.loop-n-item.result.0, s)
    ∷ []) c.new-in-loop-n.ensures c.in_ok-push-2.ensures.items) c.loop-n.invariant

pub returns : goal.returns
returns c = changes_are c.args.moves.now.freed.items c.deref-i-items.result.now c.args.moves.now.placed.items
    c.deref-n-items.result.now c.loop-i.i-index c.loop-n.n-index c.loop-i.list.items c.loop-n.list.items
    c.deref-i-items.ensures.value c.deref-n-items.ensures.value c.loop-i-test.false c.loop-n-test.false
    c.loop-i.invariant c.loop-n.invariant
