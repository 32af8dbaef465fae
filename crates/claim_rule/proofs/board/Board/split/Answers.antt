use Rattle.std.proofs.Common.{◌≢◌, ◌<◌, ◌≤◌, ◌+◌, None, All, slice_index_or, refl, sym, ◌∙◌, ap, subst, arith}
use Rattle.claim_rule.specs.declared.event.Event.TheVariants.{Split}
use Rattle.claim_rule.specs.declared.event.Played.TheVariants.{Done}
use Rattle.claim_rule.specs.Events.{CanSplit}
use Rattle.claim_rule.specs.Kept.{kept_of}
use Rattle.list_laws.proofs.Cited.{some_of, within}
use Rattle.claim_rule.proofs.Moves.{good_by, not_live, seat_there, seen_as, short_as}
use Rattle.claim_rule.proofs.Seats.{split_facts, split_next, seat_inside}
use Rattle.claim_rule.proofs.board.Board.split.Goals as goal
use Rattle.claim_rule.proofs.board.Board.split.Goals.{then-parts-eq0-via-then-parts-eq0}
use Rattle.claim_rule.proofs.board.Board.split.Goals.{then-parts-eq0-via-else-parts-eq0+then-parts-seat}
use Rattle.claim_rule.proofs.board.Board.split.Goals.{then-parts-eq0-via-else-parts-eq0+else-parts-seat+then-left-seat}
use Rattle.claim_rule.proofs.board.Board.split.Goals.{then-parts-eq0-via-else-parts-eq0+else-parts-seat+else-left-seat+then-not-holds_nothing}

-- a split may not come where no part is given or kept, too much allowance is asked for, or a bucket is held
pub returns-then-parts-eq0-clause-next : goal.returns-then-parts-eq0-clause-next
returns-then-parts-eq0-clause-next c h good = (
  short_as h (λ s. CanSplit s c.args.n c.args.parts c.args.left) _ _ c.self.view_is (λ good' can.
      let r = split_facts (kept_of c.self.inside) h c.args.n c.in-Some.seat c.args.parts c.args.left good'
      (seat_there c.args.n c.deref.ensures.value c.seat_at.ensures c.in-Some.is) can in
      elim c.then-parts-eq0.branch [
        | then-parts-eq0-via-then-parts-eq0 w ↦ absurd (omega (arith, w.if-parts-eq0.true, r.1))
        | then-parts-eq0-via-else-parts-eq0+then-parts-seat w ↦ absurd (omega (arith, w.if-parts-seat.true, r.2))
        | then-parts-eq0-via-else-parts-eq0+else-parts-seat+then-left-seat w ↦
            absurd (omega (arith, w.if-left-seat.true, r.3))
        | then-parts-eq0-via-else-parts-eq0+else-parts-seat+else-left-seat+then-not-holds_nothing w ↦ let y =
            w.holds_nothing.ensures.1 (subst (λ l. All (λ w. w ≢ c.args.n + 1) l)
            (sym w.deref-else-left-seat.ensures.value) r.0) in absurd (cc (y, w.if-not-holds_nothing.true))
      ]) good,
  refl,
)

pub overflow_add-first : goal.overflow_add-first
overflow_add-first c =
    let r = seat_inside (kept_of c.self.inside) c.self.invariant.0 c.args.n c.in-Some.seat c.self.invariant.1
    (seat_there c.args.n c.deref.ensures.value c.seat_at.ensures c.in-Some.is) in
    omega (arith, r.1, c.if-parts-seat.false)

pub index_mut-requires-2 : goal.index_mut-requires-2
index_mut-requires-2 c =
    let r = seat_inside (kept_of c.self.inside) c.self.invariant.0 c.args.n c.in-Some.seat c.self.invariant.1
    (seat_there c.args.n c.deref.ensures.value c.seat_at.ensures c.in-Some.is) in
    let a = r.0 in
    omega (arith, a, c.if-parts-seat.false, c.if-parts-eq0.false, c.self.inside.seats.ok.0)

-- a split that is done leaves a good board
pub invariant_of-self : goal.invariant_of-self
invariant_of-self c =
    let t = c.in-Some.seat in
    let live = seat_there c.args.n c.deref.ensures.value c.seat_at.ensures c.in-Some.is in
    let g = c.self.invariant in
    let nothing = subst (λ l. All (λ w. w ≢ c.args.n + 1) l) c.deref-else-left-seat.ensures.value
    (c.holds_nothing.ensures.0 c.if-not-holds_nothing.false) in
    let some : 0 < c.args.parts = omega (arith, c.if-parts-eq0.false) in
    let fewer : c.args.parts < t.parts = omega (arith, c.if-parts-seat.false) in
    let less : c.args.left ≤ t.left = omega (arith, c.if-left-seat.false) in
    good_by g.0 _ (Split c.args.n c.args.parts c.args.left) Done _ g.1 _ (split_next (kept_of c.self.inside) g.0
    c.args.n t c.args.parts c.args.left g.1 live nothing some fewer less)

pub returns-clause-good : goal.returns-clause-good
returns-clause-good c = invariant_of-self c

-- else the split is done
pub returns-clause-next : goal.returns-clause-next
returns-clause-next c h =
    let t = c.in-Some.seat in
    let live = seat_there c.args.n c.deref.ensures.value c.seat_at.ensures c.in-Some.is in
    let nothing = subst (λ l. All (λ w. w ≢ c.args.n + 1) l) c.deref-else-left-seat.ensures.value
    (c.holds_nothing.ensures.0 c.if-not-holds_nothing.false) in
    let some : 0 < c.args.parts = omega (arith, c.if-parts-eq0.false) in
    let fewer : c.args.parts < t.parts = omega (arith, c.if-parts-seat.false) in
    let less : c.args.left ≤ t.left = omega (arith, c.if-left-seat.false) in
    seen_as h _ c.args.self.now (Split c.args.n c.args.parts c.args.left) Done _ c.self.view_is
    (λ good. split_next (kept_of c.self.inside) h c.args.n t c.args.parts c.args.left good live nothing some fewer
    less)

pub returns-in_default-clause-next : goal.returns-in_default-clause-next
returns-in_default-clause-next c h good = (
  short_as h (λ s. CanSplit s c.args.n c.args.parts c.args.left) _ _ c.self.view_is
      (λ good' can. not_live (kept_of c.self.inside) c.args.n _ (λ k. let t = some_of _ k in
      c.in_default.not-Some t.0 (c.seat_at.ensures ∙ ap (λ l. slice_index_or l c.args.n None) c.deref.ensures.value
      ∙ t.1)) can) good,
  refl,
)

pub index_mut-requires : goal.index_mut-requires
index_mut-requires c =
    let i = c.self.inside in
    let live = seat_there c.args.n c.deref.ensures.value c.seat_at.ensures c.in-Some.is in
    let l = within i.seats.items c.args.n _ live in
    omega (arith, l, i.seats.ok.0)
