use Rattle.std.proofs.Common.{◌≡◌, ◌<◌, ◌+◌, ◌∷◌, [], length, refl, sym, ◌∙◌, ap, arith, append_assoc}
use Rattle.std.proofs.lemmas.List.{length-append}
use Rattle.std.specs.Vec.Iter.{into_iter_items}
use Rattle.round_table.specs.declared.worker.Worker.{Worker}
use Rattle.round_table.specs.Rounds.{claims_of, standing}
use Rattle.round_table.proofs.Moves.{first_splits}
use Rattle.round_table.proofs.Seats.{first_in_order, first_stands, deals_on}
use Rattle.round_table.proofs.opening.dealt.Goals as goal

pub split_seat-first-requires : goal.split_seat-first-requires
split_seat-first-requires g c =
    let t = c.args.board.now.shared in (
      c.loop-state.invariant.1.table,
      c.requires.words,
      first_splits t.key c.loop-state.place.id c.loop-state.place.me.0,
    )

pub invariant_of-pass : goal.invariant_of-pass
invariant_of-pass g c =
    let k = c.args.board.now.shared.key in
    let at = c.loop-state in
    let d = at.invariant.1 in
    let short = ap length c.in-Some.ensures.steps.0 in
    let all = ap length (at.invariant.0 ∙ c.into_iter-state-iterator.ensures.into_iter_gives.0) in
    let sum = length-append at.yielded (into_iter_items at.state-iterator) in
    let n = d.number_is in
    let w = c.requires.workers in
    let l : at.number < k.workers = omega arith in
    let e = ap (λ m. m.0.hands) c.split_seat-first.ensures.4 in
    e ∙ first_in_order k at.place.me.0 at.number d.view l
    ∙ (λ i. record { number = at.number; claims = claims_of (sym e i) } ∷ [])

pub loop-state-preserved : goal.loop-state-preserved
loop-state-preserved g c =
    let t = c.args.board.now.shared in
    let k = t.key in
    let at = c.loop-state in
    let d = at.invariant.1 in
    let x = c.in-Some.state in
    let steps : into_iter_items at.state-iterator ≡ x ∷ into_iter_items c.next.new.self = c.in-Some.ensures.steps.0 in
    let short = ap length steps in
    let all = ap length (at.invariant.0 ∙ c.into_iter-state-iterator.ensures.into_iter_gives.0) in
    let sum = length-append at.yielded (into_iter_items at.state-iterator) in
    let n = d.number_is in
    let w = c.requires.workers in
    let l : at.number < k.workers = omega arith in
    let seat = c.split_seat-first.result in
    let told = c.split_seat-first.ensures in
    let made : Worker g.row.T.Denot g.row.S.Denot =
    record { pass = standing seat.table_id seat.me.0 at.number; state = x } in (
      append_assoc at.yielded (x ∷ []) _ ∙ rw (← steps) at.invariant.0,
      deals_on t.table_id k at.place.table_id c.split_seat-first.new.seat.table_id at.place.me.0
          c.split_seat-first.new.seat.me.0 at.workers.items c.push.new.self.items at.yielded at.number (at.number + 1)
          made d l told.0 (ap (λ m. m.0) told.2)
          (ap (λ m. standing seat.table_id m.0 at.number) told.4
          ∙ first_stands t.table_id k seat.table_id at.place.me.0 at.number (told.3 ∙ d.table) d.view l)
          c.in_ok-push.ensures.items refl,
      (let was = at.invariant.2 in
          let gone = c.in-Some.ensures.steps.1 in
          omega arith),
    )
