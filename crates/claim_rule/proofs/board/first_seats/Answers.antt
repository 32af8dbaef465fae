use borrow.Author.Count.{falls}
use Rattle.std.proofs.Common.{ℕ, List, ◌∷◌, [], ◌++◌, ◌-◌, Option, None, Some, replicate, ◌∙◌, ap}
use Rattle.claim_rule.specs.declared.board.Seat.{Seat}
use Rattle.claim_rule.proofs.Filled.{one_more, same_end}
use Rattle.claim_rule.proofs.board.first_seats.Goals as goal

pub loop-init : goal.loop-init
loop-init c =
    c.in_ok-push.ensures.items ∙ ap (λ (l : List (Option Seat)). l ++ Some c.args.seat ∷ []) c.in_ok-seats.ensures.items

pub loop-smaller : goal.loop-smaller
loop-smaller c = falls (c.args.seat.parts - 1) c.loop.counter c.loop-test.true

pub loop-preserved : goal.loop-preserved
loop-preserved c =
    c.in_ok-push-2.ensures.items ∙ ap (λ (l : List (Option Seat)). l ++ None ∷ []) c.loop.invariant
    ∙ ap (λ (l : List (Option Seat)). Some c.args.seat ∷ l) (one_more {A = Option Seat} None c.loop.counter)

pub returns : goal.returns
returns c =
    c.loop.invariant
    ∙ ap (λ (n : ℕ). Some c.args.seat ∷ replicate {A = Option Seat} n None)
    (same_end c.loop.counter (c.args.seat.parts - 1) c.loop.auto.counter-end c.loop-test.false)
