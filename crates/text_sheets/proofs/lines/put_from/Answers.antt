use Rattle.std.proofs.Common.{ℕ, List, ◌-◌, drop, arith, subst}
use Rattle.std.proofs.lemmas.List.{length-drop, take_all}
use Rattle.text_sheets.specs.Sheets.{Puts}
use Rattle.text_sheets.proofs.lines.put_from.Goals as goal

pub returns : goal.returns
returns g c =
    let rest = drop c.args.first c.args.line.now in
    let size = length-drop c.args.first c.args.line.now in
    subst (λ (v : List ℕ). Puts g.O.Sink.holds g.O.Sink.faults c.args.sheet.now c.put.new.self v)
    (take_all (84 - c.args.first) rest (omega (arith, size, c.told-line))) c.put.ensures
