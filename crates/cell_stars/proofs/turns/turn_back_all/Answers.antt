use Rattle.std.proofs.Common.{rules}
use Rattle.cell_stars.proofs.Turned.{back_below, back_next}
use Rattle.cell_stars.proofs.turns.turn_back_all.Goals as goal

pub offset_bounds-list-i : goal.offset_bounds-list-i
offset_bounds-list-i g c =
    let l = c.loop-k in
    let h = back_below l.changes c.args.changes.now l.list c.args.list.now l.k c.index-changes-k.result l.auto.changes
    l.auto.list c.loop-k-test.true l.auto.k c.requires l.invariant c.index-changes-k.is in
    search rules

pub bounds-list-i : goal.bounds-list-i
bounds-list-i g c =
    let l = c.loop-k in
    back_below l.changes c.args.changes.now l.list c.args.list.now l.k c.index-changes-k.result l.auto.changes
    l.auto.list c.loop-k-test.true l.auto.k c.requires l.invariant c.index-changes-k.is

pub loop-k-preserved : goal.loop-k-preserved
loop-k-preserved g c =
    let l = c.loop-k in
    back_next l.changes c.args.changes.now l.list c.args.list.now l.k c.index-changes-k.result c.swap.new.x c.swap.new.y
    c.index-list-i.result l.auto.changes l.auto.list c.loop-k-test.true l.auto.k c.requires l.invariant
    c.index-changes-k.is c.swap.ensures.x_after c.swap.ensures.y_after
