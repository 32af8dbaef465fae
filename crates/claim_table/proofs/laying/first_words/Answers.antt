use borrow.Author.Count.{falls}
use Rattle.std.proofs.Common.{ℕ, List, ◌∷◌, [], ◌++◌, replicate, ◌∙◌, ap}
use Rattle.claim_table.proofs.OpeningSlots.{one_more_zero}
use Rattle.claim_rule.proofs.Cited.{same_end}
use Rattle.claim_table.proofs.laying.first_words.Goals as goal

pub loop-init : goal.loop-init
loop-init c = c.in_ok-push.ensures.items ∙ ap (λ (l : List ℕ). l ++ c.args.ticket ∷ []) c.in_ok-words.ensures.items

pub loop-smaller : goal.loop-smaller
loop-smaller c = falls c.args.count c.loop.counter c.loop-test.true

pub loop-preserved : goal.loop-preserved
loop-preserved c =
    c.in_ok-push-2.ensures.items ∙ ap (λ (l : List ℕ). l ++ 0 ∷ []) c.loop.invariant
    ∙ ap (λ (l : List ℕ). c.args.ticket ∷ l) (one_more_zero c.loop.counter)

pub returns : goal.returns
returns c =
    c.loop.invariant ∙ ap (λ (n : ℕ). c.args.ticket ∷ replicate n 0)
    (same_end c.loop.counter c.args.count c.loop.auto.counter-end c.loop-test.false)
