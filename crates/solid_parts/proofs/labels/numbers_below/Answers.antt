use Rattle.std.proofs.Common.{◌∙◌, ap, sym, List, ℕ, [], ◌∷◌, ◌++◌}
use Rattle.std.specs.List.{range_with_len}
use Rattle.list_laws.proofs.Cited.{counted_on}
use Rattle.solid_parts.proofs.labels.numbers_below.Goals as goal

pub loop-index-preserved : goal.loop-index-preserved
loop-index-preserved c =
    let i = c.loop-index.index in
    c.in_ok-push.ensures.items ∙ ap (λ (v : List ℕ). v ++ c.in_ok-number.number ∷ []) c.loop-index.invariant ∙ ap
    (λ n. range_with_len 0 i ++ n ∷ []) c.in_ok-number.ensures.value ∙ sym (counted_on i)
