use borrow.Author.Count.{falls}
use Rattle.std.proofs.Common.{ℕ, List, ◌≡◌, ◌∷◌, [], ◌++◌, replicate, ◌∙◌, ap, arith}
use Rattle.std.proofs.lemmas.List.{replicate_more}
use Rattle.round_table.proofs.opening.first_words.Goals as goal

pub loop-smaller : goal.loop-smaller
loop-smaller c = falls c.args.count c.loop.counter c.loop-test.true

pub loop-preserved : goal.loop-preserved
loop-preserved c =
    c.in_ok-push.ensures.items ∙ ap (λ (l : List ℕ). l ++ 0 ∷ []) c.loop.invariant ∙ replicate_more c.loop.counter 0

pub returns : goal.returns
returns c =
    let q : c.loop.counter ≡ c.args.count = let e = c.loop.auto.counter-end in let t = c.loop-test.false in omega
    arith in
    c.loop.invariant ∙ ap (λ (n : ℕ). replicate n 0) q
