use Rattle.std.proofs.Common.{◌≡◌, ℕ, ◌<◌, ◌-◌, List, [], ◌∷◌, length, take, drop, ap, sym, ◌∙◌, arith}
use Rattle.std.proofs.lemmas.Bool.{eqb-false}
use Rattle.std.proofs.lemmas.List.{take_rest, drop_all}
use Rattle.text_readings.specs.Readings.{lines_of}
use Rattle.text_readings.proofs.Cuts.{lines_cut, lines_whole}
use Rattle.text_readings.proofs.scan.first_line.Goals as goal

pub returns-in-Some-clause-lines : goal.returns-in-Some-clause-lines
returns-in-Some-clause-lines c =
    rw take_rest (lines_cut c.args.bytes.now c.in-Some.end c.in-Some.ensures.found.0 c.in-Some.ensures.found.1
    c.in-Some.ensures.before)

pub returns-in-None-clause-lines : goal.returns-in-None-clause-lines
returns-in-None-clause-lines c =
    let s : List ℕ = c.args.bytes.now in
    let some : 0 < length s = omega (arith, eqb-false (length s) 0 (sym c.is_empty.ensures ∙ c.if-is_empty.false)) in
    let after : take (length s - length s) (drop (length s) s) ≡ [] = take_rest s (length s)
    ∙ drop_all (length s) s (omega arith) in
    lines_whole s some c.in-None.ensures.found ∙ ap (λ (rest : List ℕ). s ∷ lines_of rest) (sym after)
