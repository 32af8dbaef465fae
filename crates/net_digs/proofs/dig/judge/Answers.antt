use Rattle.std.proofs.Common.{refl, subst, sym, ◌∙◌}
use Rattle.std.proofs.lemmas.Bool.{MatchBool-at_false, MatchBool-at_true}
use Rattle.list_laws.proofs.Cited.{one_value}
use Rattle.point_order.specs.declared.cell.Cell.{Cell}
use Rattle.hole_laws.specs.Edits.{GoesFrom, StaysFrom}
use Rattle.cell_slots.specs.Marked.{StaysBeside}
use Rattle.cell_slots.specs.Nets.{cells_of_slots}
use Rattle.net_digs.proofs.Marked.{mark_below, marked_gone, marked_stays}
use Rattle.cell_slots.proofs.Cited.{first_distinct, live_in}
use Rattle.net_digs.proofs.dig.judge.Goals as goal

pub returns-then-is_staying-clause-judged : goal.returns-then-is_staying-clause-judged
returns-then-is_staying-clause-judged c = record {
  stays = λ q e. c.requires.marked.stays c.args.place q e (c.is_staying.ensures.0 c.if-is_staying.true);
  found = refl;
}

pub is_in_conflict-requires-clause-among : goal.is_in_conflict-requires-clause-among
is_in_conflict-requires-clause-among c =
    rw c.new-spot.ensures (live_in c.args.net.now c.args.place c.cell_in.result c.cell_in.ensures)

pub find-requires : goal.find-requires
find-requires c =
    mark_below (StaysBeside c.args.p (cells_of_slots c.args.net.now)) c.args.net.now c.args.marks.now
    c.args.found.now.items c.requires.marked c.args.place c.cell_in.result c.cell_in.ensures

pub set_staying-requires : goal.set_staying-requires
set_staying-requires c =
    mark_below (StaysBeside c.args.p (cells_of_slots c.args.net.now)) c.args.net.now c.args.marks.now
    c.args.found.now.items c.requires.marked c.args.place c.cell_in.result c.cell_in.ensures

-- the cell goes
pub returns-then-goes-clause-marked : goal.returns-then-goes-clause-marked
returns-then-goes-clause-marked c =
    let w = c.requires.within.0 in
    let old = cells_of_slots c.args.net.now in
    let x = c.cell_in.result in
    rw (c.in_ok-find.ensures.marks, c.in_ok-find.ensures.found, c.cell.ensures, c.new-spot.ensures)
    (marked_gone (StaysBeside c.args.p old) c.args.net.now c.args.marks.now c.args.found.now.items
    (first_distinct old w.others w.cells_of.once) c.requires.marked c.args.place x c.cell_in.ensures c.requires.apart)

pub returns-then-goes-clause-judged : goal.returns-then-goes-clause-judged
returns-then-goes-clause-judged c = record {
  goes = record {
    cell = c.cell_in.result;
    at = c.cell_in.ensures;
    goes = λ others s k n. MatchBool-at_true (GoesFrom s c.args.p c.cell_in.result)
        (StaysFrom s c.args.p c.cell_in.result) c.if-goes.true
        ((rw c.new-spot.ensures at c.in-Some.ensures) others s k n);
  };
  found = rw (c.in_ok-find.ensures.found, c.cell.ensures, c.new-spot.ensures) refl;
}

-- the cell stays
pub returns-clause-marked : goal.returns-clause-marked
returns-clause-marked c =
    let x = c.cell_in.result in
    rw c.set_staying.ensures
    (marked_stays (StaysBeside c.args.p (cells_of_slots c.args.net.now)) c.args.net.now c.args.marks.now
    c.args.found.now.items c.requires.marked c.args.place x c.cell_in.ensures c.requires.apart
    (λ others s k n. MatchBool-at_false (GoesFrom s c.args.p x) (StaysFrom s c.args.p x) c.if-goes.false
    ((rw c.new-spot.ensures at c.in-Some.ensures) others s k n)))

pub returns-clause-judged : goal.returns-clause-judged
returns-clause-judged c =
    let x = c.cell_in.result in
    record {
      stays = λ q e others s k n. (
          let t = MatchBool-at_false (GoesFrom s c.args.p x) (StaysFrom s c.args.p x) c.if-goes.false
          ((rw c.new-spot.ensures at c.in-Some.ensures) others s k n) in
          subst (λ (y : Cell). StaysFrom s c.args.p y) (one_value x q (sym c.cell_in.ensures ∙ e)) t);
      found = refl;
    }
