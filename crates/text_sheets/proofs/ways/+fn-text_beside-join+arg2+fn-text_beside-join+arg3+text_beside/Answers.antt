use Rattle.std.proofs.Common.{◌≡◌, ◌∙◌, ◌≤◌, ◌+◌, ◌-◌, ◌/◌, ◌++◌, List, ℕ, ap₂, arith, subst}
use Rattle.std.specs.Prelude.{IfOk}
use Rattle.std.proofs.lemmas.Result.{IfOk-at_ok}
use Rattle.text_sheets.specs.Ways.{lines_from}
use Rattle.text_sheets.proofs.Ranges.{ranges_cut}
use Rattle.text_sheets.proofs.ways.+fn-text_beside-join+arg2+fn-text_beside-join+arg3+text_beside.Goals as goal

-- both halves are the whole
pub returns : goal.returns
returns g t c =
    let lines : List (List ℕ) = g.L.Lines.lines_of c.args.lines.now in
    let from = c.args.from in
    let to = c.args.to in
    let order = c.requires.order in
    let middle : ℕ = from + (to - from) / 2 in
    let low : from ≤ middle = omega arith in
    let high : middle ≤ to = omega (arith, order) in
    let front = IfOk-at_ok (λ text. text.items ≡ lines_from from middle lines) c.in_ok-front.was
    c.join-front.ensures.first in
    let back = IfOk-at_ok (λ text. text.items ≡ lines_from middle to lines) c.in_ok-back.was
    c.join-front.ensures.second in
    subst (λ (v : List ℕ). IfOk c.together.result (λ text. text.items ≡ v))
    (ap₂ (λ (l m : List ℕ). l ++ m) front back ∙ ranges_cut from middle to lines low high c.requires.within)
    c.together.ensures
