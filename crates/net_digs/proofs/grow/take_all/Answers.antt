use Rattle.std.proofs.Common.{refl, ◌∙◌, sym, subst, ◌+◌, ◌++◌, [], List, take, inl, inr}
use Rattle.std.proofs.lemmas.List.{take_all}
use Rattle.list_laws.proofs.Cited.{apart_place, at_place, from_append, take_next}
use Rattle.point_order.specs.declared.cell.Cell.{Cell}
use Rattle.point_order.specs.Sets.{IsIn}
use Rattle.cell_slots.specs.Nets.{AreMoved, IsWithout, cells_of_slots}
use Rattle.cell_slots.proofs.Cited.{moved_on, moved_with_none}
use Rattle.cell_net.proofs.Cited.{taken}
use Rattle.net_digs.proofs.grow.take_all.Goals as goal

pub loop-spot-init : goal.loop-spot-init
loop-spot-init c = (moved_with_none (cells_of_slots c.args.net.now) [] refl, refl)

-- the cell was not taken out yet
pub clear-requires : goal.clear-requires
clear-requires c =
    let i = c.loop-spot.spot-index in
    let gone = c.args.gone.now in
    let x = c.spot-item.result in
    let net = cells_of_slots c.loop-spot.net in
    let there = (c.loop-spot.invariant.0.members x).0
    (c.requires.among x (at_place gone i x x c.loop-spot-test.true c.spot-item.is)) in
    subst (λ (q : Cell). IsIn q net) (sym c.cell.ensures) (elim (from_append x net (take i gone) there) [
      | inl j ↦ j
      | inr j ↦ absurd (apart_place gone i x c.requires.once c.loop-spot-test.true c.spot-item.is j)
    ])

-- one cell more is out
pub loop-spot-preserved : goal.loop-spot-preserved
loop-spot-preserved c =
    let i = c.loop-spot.spot-index in
    let gone = c.args.gone.now in
    let x = c.spot-item.result in
    let old = cells_of_slots c.args.net.now in
    let net = cells_of_slots c.loop-spot.net in
    let now = cells_of_slots c.clear.new.self in
    rw c.note_free.ensures (
      moved_on old (net ++ take i gone) (now ++ take (i + 1) gone) c.loop-spot.invariant.0
          (subst (λ (v : List Cell). AreMoved (net ++ take i gone) (now ++ v))
          (sym (take_next gone i x c.loop-spot-test.true c.spot-item.is))
          (taken net (take i gone) now x (subst (λ (q : Cell). IsWithout net q now) c.cell.ensures
          c.clear.ensures.taken))),
      c.clear.ensures.size ∙ c.loop-spot.invariant.1,
    )

pub returns-clause-cells : goal.returns-clause-cells
returns-clause-cells c =
    subst (λ (v : List Cell). AreMoved (cells_of_slots c.args.net.now) (cells_of_slots c.loop-spot.net ++ v))
    (take_all c.loop-spot.spot-index c.args.gone.now c.loop-spot-test.false) c.loop-spot.invariant.0
