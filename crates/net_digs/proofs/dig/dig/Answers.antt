use Rattle.std.specs.Prelude.{◌≡◌, slice_index_or}
use Rattle.std.proofs.Common.{sym, ap, subst, ◌∙◌, ◌++◌, ◌∷◌, [], List, ◌<◌, length, arith}
use Rattle.std.proofs.lemmas.Bool.{MatchBool-at_false, MatchBool-at_true}
use Rattle.list_laws.proofs.Cited.{one_value}
use Rattle.point_order.specs.declared.cell.Cell.{Cell}
use Rattle.hole_laws.specs.Digs.{facets_of_first}
use Rattle.hole_laws.specs.Edits.{GoesFrom}
use Rattle.cell_slots.specs.Marked.{StaysBeside, mark_at}
use Rattle.cell_slots.specs.Nets.{cells_of_slots}
use Rattle.net_digs.proofs.Digging.{begins, digs_on, hole_found, next_at, next_new}
use Rattle.net_digs.proofs.Marked.{marked_gone, marked_none, picked_few, slot_below}
use Rattle.cell_slots.proofs.Cited.{first_distinct}
use Rattle.net_digs.proofs.dig.dig.Goals as goal

pub cell_in-requires : goal.cell_in-requires
cell_in-requires c = (c.requires.first.cell, c.requires.first.at)

pub find-requires : goal.find-requires
find-requires c =
    let below = slot_below c.args.net.now c.args.first c.requires.first.cell c.requires.first.at in
    let room = c.requires.room in
    omega (arith, below, room)

-- the first cell is found
pub dig-init : goal.dig-init
dig-init c =
    let e = c.in_ok-find.ensures in
    let w = c.requires.within.0 in
    let old = cells_of_slots c.args.net.now in
    let x = c.cell_in.result in
    let g = c.requires.first in
    let there = one_value g.cell x (sym g.at ∙ c.cell_in.ensures) in
    let none = c.requires.none in
    let low : mark_at c.args.marks.now c.args.first < c.args.marks.now.stamp = c.requires.marked c.args.first in
    rw (e.marks, e.found) (
      marked_gone (StaysBeside c.args.p old) c.args.net.now c.args.marks.now c.args.hole.now.gone.items
          (first_distinct old w.others w.cells_of.once)
          (marked_none (StaysBeside c.args.p old) c.args.net.now c.args.marks.now c.args.hole.now.gone.items
          c.requires.room c.requires.marked none)
          c.args.first x c.cell_in.ensures
          (λ z. (let k : mark_at c.args.marks.now c.args.first ≡ c.args.marks.now.stamp = z in
          absurd (omega (arith, low, k)))),
      λ others s k n. rw (ap (λ (l : List Cell). l ++ x ∷ []) none, c.requires.no_rim)
          (begins s c.args.p x n (subst (λ (q : Cell). GoesFrom s c.args.p q) there (g.goes others s k n))),
    )

-- the next found cell is one of the complex, and goes
pub explore-requires-clause-stands : goal.explore-requires-clause-stands
explore-requires-clause-stands c =
    let w = c.requires.within.0 in
    let s = w.set in
    let hole = c.dig.hole in
    let v = c.dig.invariant.1 w.others s w.cells_of c.requires.within.1 in
    let less : c.dig.explored < length hole.gone.items = omega (arith, c.len.ensures, c.dig-test.true) in
    let at = subst (λ (q : Cell). q ≡ slice_index_or hole.gone.items c.dig.explored q) (sym c.copied-spot.ensures)
    c.index.ensures in (
      w,
      facets_of_first c.dig.explored hole.gone.items,
      next_at s w.cells_of.solid c.args.p c.dig.explored hole.gone.items hole.rim.items v c.copied-spot.result less at,
      next_new s w.cells_of.solid c.args.p c.dig.explored hole.gone.items hole.rim.items v c.copied-spot.result less
          at,
    )

pub dig-smaller : goal.dig-smaller
dig-smaller c =
    let few = picked_few (cells_of_slots c.args.net.now) c.dig.hole.gone.items c.dig.invariant.0.picked in
    let less : c.dig.explored < length c.dig.hole.gone.items = omega (arith, c.len.ensures, c.dig-test.true) in
    omega (arith, few, less)

-- one cell more is explored
pub dig-preserved : goal.dig-preserved
dig-preserved c =
    let e = c.in_ok-could.ensures in
    let mid = c.dig.hole in
    let new = c.explore.new.hole in
    let less : c.dig.explored < length mid.gone.items = omega (arith, c.len.ensures, c.dig-test.true) in
    let at = subst (λ (q : Cell). q ≡ slice_index_or mid.gone.items c.dig.explored q) (sym c.copied-spot.ensures)
    c.index.ensures in (
      e.marked,
      λ others s k n. digs_on s k.solid c.args.p c.dig.explored mid.gone.items mid.rim.items
          (c.dig.invariant.1 others s k n) c.copied-spot.result less at new.gone.items new.rim.items e.more
          (MatchBool-at_true _ _ c.if-not-could.false e.explored others s k n),
    )

pub returns-then-not-could-clause-picked : goal.returns-then-not-could-clause-picked
returns-then-not-could-clause-picked c = c.in_ok-could.ensures.marked.picked

pub returns-then-not-could-clause-hole : goal.returns-then-not-could-clause-hole
returns-then-not-could-clause-hole c = MatchBool-at_false _ _ c.if-not-could.true c.in_ok-could.ensures.explored

pub returns-clause-picked : goal.returns-clause-picked
returns-clause-picked c = c.dig.invariant.0.picked

pub returns-clause-hole : goal.returns-clause-hole
returns-clause-hole c others s k n =
    hole_found s k.solid c.args.p c.dig.explored c.dig.hole.gone.items c.dig.hole.rim.items
    (c.dig.invariant.1 others s k n) (omega (arith, c.len.ensures, c.dig-test.false))
