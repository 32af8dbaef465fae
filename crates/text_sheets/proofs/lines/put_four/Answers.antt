use Rattle.std.proofs.Common.{ℕ, List, ◌++◌, ap, subst, sym, ◌∙◌}
use Rattle.std.specs.Prelude.{codes, decimal}
use Rattle.text_sheets.specs.Sheets.{Puts}
use Rattle.text_sheets.proofs.Spaced.{behind_four}
use Rattle.text_sheets.proofs.lines.put_four.Goals as goal

pub returns : goal.returns
returns g c =
    let p = decimal c.args.a ++ codes " " in
    let q = decimal c.args.b ++ codes " " in
    let r = decimal c.args.c ++ codes " " in
    let line = c.write_before-first.ensures.written ∙
    ap (λ (v : List ℕ). p ++ v) (c.write_before-second.ensures.written ∙
    ap (λ (v : List ℕ). q ++ v) (c.write_before-third.ensures.written ∙
    ap (λ (v : List ℕ). r ++ v) c.write_last-fourth.ensures.written)) ∙
    sym (behind_four p q r (decimal c.args.d) (codes "\n")) in
    subst (λ (v : List ℕ). Puts g.O.Sink.holds g.O.Sink.faults c.args.sheet.now c.put_from.new.sheet v) line
    c.put_from.ensures
