use Rattle.std.proofs.Common.{◌++◌, ◌∷◌, ap, ◌∙◌, decimal, arith}
use Rattle.std.proofs.lemmas.List.{drop-set, drop_all, length-set}
use Rattle.text_sheets.proofs.Spaced.{at_most_twenty}
use Rattle.text_sheets.proofs.lines.write_last.Goals as goal

pub write_digits-requires : goal.write_digits-requires
write_digits-requires c =
    let digits = at_most_twenty c.args.number c.ranges.number.fits in
    let size = length-set c.args.line.now 83 10 in
    (omega (arith, digits), omega (arith, size, c.told-line))

pub returns-clause-written : goal.returns-clause-written
returns-clause-written c = c.write_digits.ensures.written ∙
    ap (λ v. decimal c.args.number ++ v) (drop-set c.args.line.now 83 10 (omega (arith, c.told-line)) ∙
    ap (λ v. 10 ∷ v) (drop_all 84 c.args.line.now (omega (arith, c.told-line))))

pub returns-clause-room : goal.returns-clause-room
returns-clause-room c = omega (arith, at_most_twenty c.args.number c.ranges.number.fits, c.write_digits.ensures.start)
