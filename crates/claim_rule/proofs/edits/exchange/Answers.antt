use Rattle.std.proofs.Common.{◌∙◌, ap}
use Rattle.cell_store.specs.Buckets.{InHand, Room}
use Rattle.cell_store.proofs.Cited.{all_are_held, goal_free, point_held}
use Rattle.claim_rule.proofs.Committing.{swapped_same}
use Rattle.claim_rule.proofs.edits.exchange.Goals as goal

pub reserve-requires-clause-gone : goal.reserve-requires-clause-gone
reserve-requires-clause-gone c =
    all_are_held c.args.hold.now c.args.gone.now c.requires.whole.has c.requires.whole.all

pub reserve-requires-clause-fresh : goal.reserve-requires-clause-fresh
reserve-requires-clause-fresh c =
    all_are_held c.args.hold.now c.args.fresh.now c.requires.whole.has c.requires.whole.all

pub reserve-requires-clause-points : goal.reserve-requires-clause-points
reserve-requires-clause-points c p i = point_held c.args.hold.now p c.requires.whole.has c.requires.whole.all

pub swap_cells-requires-clause-room : goal.swap_cells-requires-clause-room
swap_cells-requires-clause-room c = ap (λ (x : InHand). x.room.swap) c.in_ok-reserve.ensures.ok

pub swap_cells-requires-clause-found : goal.swap_cells-requires-clause-found
swap_cells-requires-clause-found c back =
    absurd (let e = ap (λ (x : InHand). x.room.back) c.in_ok-reserve.ensures.ok in cc (e, back))

pub put_goal-requires : goal.put_goal-requires
put_goal-requires c =
    let hold = c.args.hold.now in
    let ok = c.in_ok-reserve.ensures.ok in
    let right = c.requires.right in
    goal_free hold c.reserve.new.self c.swap_cells.new.self right.0 c.args.gone.now c.args.fresh.now c.args.entry
    right.1 (λ q k. point_held hold q c.requires.whole.has c.requires.whole.all) right.2
    (ap (λ (x : InHand). x.grid) ok) (ap (λ (x : InHand). x.places) ok) c.swap_cells.ensures.swapped
    (ap (λ (r : Room). r.point) c.swap_cells.ensures.room ∙ ap (λ (x : InHand). x.room.point) ok)

pub push_entry-requires : goal.push_entry-requires
push_entry-requires c =
    ap (λ (r : Room). r.push) c.put_goal.ensures.room ∙ ap (λ (r : Room). r.push) c.swap_cells.ensures.room
    ∙ ap (λ (x : InHand). x.room.push) c.in_ok-reserve.ensures.ok

pub returns-clause-exchanged : goal.returns-clause-exchanged
returns-clause-exchanged c = record {
  between = c.swap_cells.new.self;
  swapped = swapped_same c.args.gone.now c.args.fresh.now c.reserve.new.self c.args.hold.now c.swap_cells.new.self
      (ap (λ (x : InHand). x.grid) c.in_ok-reserve.ensures.ok) (ap (λ (x : InHand). x.places)
      c.in_ok-reserve.ensures.ok)
      c.swap_cells.ensures.swapped;
  with_goal = c.put_goal.new.self;
  arrived = c.put_goal.ensures.arrived;
  noted = c.push_entry.ensures.noted;
}
