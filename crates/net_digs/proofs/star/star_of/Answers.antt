use Rattle.std.specs.Prelude.{◌≡◌, slice_index_or}
use Rattle.std.proofs.lemmas.Bool.{MatchBool-at_false, MatchBool-at_true}
use Rattle.std.proofs.Common.{refl, inl, sym, ◌∙◌, ap, subst, List, ◌<◌, ◌≤◌, ◌++◌, length, [], ◌∷◌, arith}
use Rattle.list_laws.proofs.Cited.{at_place, in_left, one_value}
use Rattle.point_order.specs.declared.cell.Cell.{Cell}
use Rattle.point_order.specs.Facets.{points_of}
use Rattle.point_order.specs.Sets.{IsIn}
use Rattle.cell_slots.specs.Nets.{cells_of_slots}
use Rattle.cell_slots.specs.Marked.{mark_at}
use Rattle.net_digs.proofs.Marked.{marked_gone, marked_none, picked_few, slot_below}
use Rattle.cell_slots.proofs.Cited.{first_distinct, live_in}
use Rattle.net_digs.proofs.StarSearch.{star_begins, star_found, star_on}
use Rattle.net_digs.proofs.star.star_of.Goals as goal

pub explore_around-requires-clause-among : goal.explore_around-requires-clause-among
explore_around-requires-clause-among c =
    let less : c.star.explored < length c.star.star.gone.items =
    omega (arith, c.len-in-star.ensures, c.star-test.true) in
    let at = subst (λ (q : Cell). q ≡ slice_index_or c.star.star.gone.items c.star.explored q)
    (sym c.copied-spot.ensures) c.index.ensures in
    at_place c.star.star.gone.items c.star.explored c.copied-spot.result c.copied-spot.result less at

pub cell_in-requires : goal.cell_in-requires
cell_in-requires c = (c.requires.first.cell, c.requires.first.at)

pub find-requires : goal.find-requires
find-requires c =
    let below = slot_below c.args.net.now c.args.first c.requires.first.cell c.requires.first.at in
    let room = c.in_ok-begin.ensures.room in
    omega (arith, below, room, c.len.ensures)

-- the first cell is found
pub star-init : goal.star-init
star-init c =
    let e = c.in_ok-find.ensures in
    let old = cells_of_slots c.args.net.now in
    let marks = c.begin.new.self in
    let x = c.cell_in.result in
    let f = c.requires.first in
    let there = one_value f.cell x (sym f.at ∙ c.cell_in.ensures) in
    let found = e.found ∙ ap (λ (l : List Cell). l ++ x ∷ []) c.new-star.ensures.gone in
    let room : length c.args.net.now ≤ length marks.of =
    (let r = c.in_ok-begin.ensures.room in omega (arith, r, c.len.ensures)) in
    let low : mark_at marks c.args.first < marks.stamp = c.in_ok-begin.ensures.none c.args.first in
    rw (e.marks, found) (
      marked_gone (λ q. Unit {0}) c.args.net.now marks []
          (first_distinct old c.requires.within.others c.requires.within.cells_of.once)
          (marked_none (λ q. Unit {0}) c.args.net.now marks [] room c.in_ok-begin.ensures.none refl)
          c.args.first x c.cell_in.ensures
          (λ z. (let k : mark_at marks c.args.first ≡ marks.stamp = z in absurd (omega (arith, low, k)))),
      (x, inl refl),
      λ others s k. star_begins s c.args.v x (record {
        listed = (k.members x).0 (in_left x old others (live_in c.args.net.now c.args.first x c.cell_in.ensures));
        has = subst (λ (q : Cell). IsIn c.args.v (points_of q)) there f.has;
      }),
    )

pub star-smaller : goal.star-smaller
star-smaller c =
    let few = picked_few (cells_of_slots c.args.net.now) c.star.star.gone.items c.star.invariant.0.picked in
    let less : c.star.explored < length c.star.star.gone.items =
    omega (arith, c.len-in-star.ensures, c.star-test.true) in
    omega (arith, few, less)

-- one cell more is explored
pub star-preserved : goal.star-preserved
star-preserved c =
    let v = c.star.invariant in
    let e = c.in_ok-could.ensures in
    let old = c.star.star.gone.items in
    let new = c.explore_around.new.star.gone.items in
    let less : c.star.explored < length old = omega (arith, c.len-in-star.ensures, c.star-test.true) in
    let at = subst (λ (q : Cell). q ≡ slice_index_or old c.star.explored q) (sym c.copied-spot.ensures)
    c.index.ensures in (
      e.marked,
      (v.1.0, subst (λ (g : List Cell). IsIn v.1.0 g) (sym e.more.1) (in_left v.1.0 old e.more.0 v.1.1)),
      λ others s k. star_on s c.args.v c.star.explored old new c.copied-spot.result less at e.more
          (MatchBool-at_true _ _ c.if-not-could.false e.explored others s k) (v.2 others s k),
    )

pub returns-then-not-could : goal.returns-then-not-could
returns-then-not-could c = MatchBool-at_false _ _ c.if-not-could.true c.in_ok-could.ensures.explored

pub returns : goal.returns
returns c =
    let v = c.star.invariant in (
      v.0.picked,
      λ others s k. star_found s c.args.v c.star.explored c.star.star.gone.items v.1.0 k.solid.set
          (omega (arith, c.len-in-star.ensures, c.star-test.false)) v.0.picked.once v.1.1 (v.2 others s k),
    )
