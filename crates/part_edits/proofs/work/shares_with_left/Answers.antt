use Rattle.std.proofs.Common.{◌≡◌, ◌∙◌, ◌<◌, ap, arith, false, inl, inr, length, None, slice_index_or, subst, sym}
use Rattle.edit_history.specs.Edits.{share_point}
use Rattle.part_edits.specs.Lists.{answer_at}
use Rattle.part_edits.specs.Made.{Line}
use Rattle.part_edits.proofs.Worked.{at_any, at_or_below}
use Rattle.part_edits.proofs.work.shares_with_left.Goals as goal

pub loop-k-preserved : goal.loop-k-preserved
loop-k-preserved c j d l n =
    let lines = c.args.lines.now in
    let k = c.loop-k.k in
    let i = c.args.i in
    let inside = c.requires.within in
    let less = c.loop-k-test.true in
    let below : k < length lines = omega (arith, inside, less) in
    elim (at_or_below k j l) [
      | inl x ↦ c.loop-k.invariant j d x n
      | inr q ↦ (let f = c.is_left_with.ensures c.if-is_left_with.false
          (subst (λ z. answer_at c.args.answers.now z ≡ None) (sym q) n) in
          subst (λ z. share_point (slice_index_or lines z d).1 (slice_index_or lines i d).1 ≡ false) q
          (ap (λ (x : Line). share_point x.1 (slice_index_or lines i d).1)
          (at_any lines k d c.index-lines-k.result below)
          ∙ ap (λ (x : Line). share_point (slice_index_or lines k c.index-lines-k.result).1 x.1)
          (at_any lines i d c.index-lines-i.result inside) ∙ f))
    ]
