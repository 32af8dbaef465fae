use Rattle.std.proofs.Common.{◌≡◌, ◌≢◌, ◌+◌, None, Some, All, slice_index_or, slice_set, refl, sym, ◌∙◌, ap, subst}
use Rattle.std.proofs.Common.{arith}
use Rattle.claim_rule.specs.declared.event.Event.TheVariants.{Join}
use Rattle.claim_rule.specs.declared.event.Played.TheVariants.{Done}
use Rattle.claim_rule.specs.Good.{Good}
use Rattle.claim_rule.specs.Events.{Next, CanJoin}
use Rattle.claim_rule.specs.Kept.{kept_of, board_of}
use Rattle.list_laws.proofs.Cited.{none_there, within}
use Rattle.claim_rule.proofs.Moves.{good_by, not_live, seat_there, seen_as, short_as}
use Rattle.claim_rule.proofs.Seats.{both_seats, join_facts, join_next, seat_inside}
use Rattle.claim_rule.proofs.board.Board.join.Goals as goal
use Rattle.claim_rule.proofs.board.Board.join.Goals.{in_default-via-in-Some+in_default, in_default-via-in_default}
use Rattle.claim_rule.proofs.board.Board.join.Goals.{then-from-via-then-from}
use Rattle.claim_rule.proofs.board.Board.join.Goals.{then-from-via-else-from+then-not-holds_nothing}
use Rattle.claim_rule.proofs.board.Board.join.Goals.{then-from-via-else-from+else-not-holds_nothing+then-not-holds_nothing-2}

-- a join may not come where the parts are not side by side, or one of the passes holds a bucket
pub returns-then-from-clause-next : goal.returns-then-from-clause-next
returns-then-from-clause-next c h good = (
  short_as h (λ s. CanJoin s c.args.n c.args.m) _ _ c.self.view_is (λ good' can.
      let t = c.in-Some-Some.seat in
      let r = join_facts (kept_of c.self.inside) h c.args.n c.args.m t good'
      (seat_there c.args.n c.deref.ensures.value c.seat_at.ensures c.in-Some-Some.is-0) can in
      elim c.then-from.branch [
        | then-from-via-then-from w ↦ absurd (w.if-from.true (c.from.ensures ∙ r.2
            ∙ ap (λ k. k + t.parts) (sym c.from-2.ensures) ∙ ap (λ k. c.from-2.result + k) (sym c.from-3.ensures)))
        | then-from-via-else-from+then-not-holds_nothing w ↦ let y = w.holds_nothing.ensures.1
            (subst (λ l. All (λ w. w ≢ c.args.n + 1) l) (sym w.deref-else-from.ensures.value) r.0) in
            absurd (cc (y, w.if-not-holds_nothing.true))
        | then-from-via-else-from+else-not-holds_nothing+then-not-holds_nothing-2 w ↦ let y =
            w.holds_nothing-else-not-holds_nothing.ensures.1 (subst (λ l. All (λ w. w ≢ c.args.m + 1) l)
            (sym w.deref-else-not-holds_nothing.ensures.value) r.1) in
            absurd (cc (y, w.if-not-holds_nothing-2.true))
      ]) good,
  refl,
)

-- both passes' parts are parts of the board, so their sum is small
pub overflow_add-seat : goal.overflow_add-seat
overflow_add-seat c =
    let kept = kept_of c.self.inside in
    let g = c.self.invariant in
    let live = seat_there c.args.n c.deref.ensures.value c.seat_at.ensures c.in-Some-Some.is-0 in
    let live' = seat_there c.args.m c.deref-2.ensures.value c.seat_at-2.ensures c.in-Some-Some.is-1 in
    let r = seat_inside kept g.0 c.args.n c.in-Some-Some.seat g.1 live in
    let q = seat_inside kept g.0 c.args.m c.in-Some-Some.other g.1 live' in
    omega (arith, r.1, q.1)

-- and so is the sum of their allowances
pub overflow_add-seat-2 : goal.overflow_add-seat-2
overflow_add-seat-2 c =
    let kept = kept_of c.self.inside in
    let g = c.self.invariant in
    let live = seat_there c.args.n c.deref.ensures.value c.seat_at.ensures c.in-Some-Some.is-0 in
    let live' = seat_there c.args.m c.deref-2.ensures.value c.seat_at-2.ensures c.in-Some-Some.is-1 in
    let r = seat_inside kept g.0 c.args.n c.in-Some-Some.seat g.1 live in
    let q = seat_inside kept g.0 c.args.m c.in-Some-Some.other g.1 live' in
    omega (arith, r.2, q.2)

-- a join that is done leaves a good board
pub invariant_of-self : goal.invariant_of-self
invariant_of-self c =
    let kept = kept_of c.self.inside in
    let t = c.in-Some-Some.seat in
    let o = c.in-Some-Some.other in
    let live = seat_there c.args.n c.deref.ensures.value c.seat_at.ensures c.in-Some-Some.is-0 in
    let live' = seat_there c.args.m c.deref-2.ensures.value c.seat_at-2.ensures c.in-Some-Some.is-1 in
    let g = c.self.invariant in
    let nothing = subst (λ l. All (λ w. w ≢ c.args.n + 1) l) c.deref-else-from.ensures.value
    (c.holds_nothing.ensures.0 c.if-not-holds_nothing.false) in
    let nothing' = subst (λ l. All (λ w. w ≢ c.args.m + 1) l) c.deref-else-not-holds_nothing.ensures.value
    (c.holds_nothing-else-not-holds_nothing.ensures.0 c.if-not-holds_nothing-2.false) in
    let next : c.args.m ≡ t.first + t.parts =
    omega (arith, c.if-from.false, c.from.ensures, c.from-2.ensures, c.from-3.ensures) in
    subst (λ k. Good (board_of (record kept {
      seats = slice_set (slice_set kept.seats c.args.m None) c.args.n (Some (both_seats t o k));
    }))) (sym c.max.ensures) (good_by g.0 _ (Join c.args.n c.args.m) Done _ g.1 _
    (join_next kept g.0 c.args.n c.args.m t o g.1 live live' nothing nothing' next))

pub returns-clause-good : goal.returns-clause-good
returns-clause-good c = invariant_of-self c

-- else it is done
pub returns-clause-next : goal.returns-clause-next
returns-clause-next c h good =
    let kept = kept_of c.self.inside in
    let t = c.in-Some-Some.seat in
    let o = c.in-Some-Some.other in
    let live = seat_there c.args.n c.deref.ensures.value c.seat_at.ensures c.in-Some-Some.is-0 in
    let live' = seat_there c.args.m c.deref-2.ensures.value c.seat_at-2.ensures c.in-Some-Some.is-1 in
    let nothing = subst (λ l. All (λ w. w ≢ c.args.n + 1) l) c.deref-else-from.ensures.value
    (c.holds_nothing.ensures.0 c.if-not-holds_nothing.false) in
    let nothing' = subst (λ l. All (λ w. w ≢ c.args.m + 1) l) c.deref-else-not-holds_nothing.ensures.value
    (c.holds_nothing-else-not-holds_nothing.ensures.0 c.if-not-holds_nothing-2.false) in
    let next : c.args.m ≡ t.first + t.parts =
    omega (arith, c.if-from.false, c.from.ensures, c.from-2.ensures, c.from-3.ensures) in
    subst (λ k. Next h c.args.self.now (Join c.args.n c.args.m) Done (board_of (record kept {
      seats = slice_set (slice_set kept.seats c.args.m None) c.args.n (Some (both_seats t o k));
    }))) (sym c.max.ensures) (seen_as h _ c.args.self.now (Join c.args.n c.args.m) Done _ c.self.view_is
    (λ good'. join_next kept h c.args.n c.args.m t o good' live live' nothing nothing' next) good)

-- it may not come where one of the passes is not live
pub returns-in_default-clause-next : goal.returns-in_default-clause-next
returns-in_default-clause-next c h good = (
  short_as h (λ s. CanJoin s c.args.n c.args.m) _ _ c.self.view_is (λ good' can. elim c.in_default.branch [
    | in_default-via-in-Some+in_default w ↦
        not_live (kept_of c.self.inside) c.args.m _
        (none_there _ (ap (λ l. slice_index_or l c.args.m None) (sym c.deref-2.ensures.value)
        ∙ sym c.seat_at-2.ensures ∙ w.in_default.is-1)) can.1
    | in_default-via-in_default w ↦
        not_live (kept_of c.self.inside) c.args.n _
        (none_there _ (ap (λ l. slice_index_or l c.args.n None) (sym c.deref.ensures.value)
        ∙ sym c.seat_at.ensures ∙ w.in_default.is-0)) can.0
  ]) good,
  refl,
)

pub index_mut-requires : goal.index_mut-requires
index_mut-requires c =
    let i = c.self.inside in
    let live' = seat_there c.args.m c.deref-2.ensures.value c.seat_at-2.ensures c.in-Some-Some.is-1 in
    let l = within i.seats.items c.args.m _ live' in
    omega (arith, l, i.seats.ok.0)

pub index_mut-requires-2 : goal.index_mut-requires-2
index_mut-requires-2 c =
    let i = c.self.inside in
    let live = seat_there c.args.n c.deref.ensures.value c.seat_at.ensures c.in-Some-Some.is-0 in
    let l = within i.seats.items c.args.n _ live in
    omega (arith, l, i.seats.ok.0)
