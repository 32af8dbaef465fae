use Rattle.std.proofs.Common.{◌-◌, arith}
use Rattle.std.proofs.lemmas.List.{length-set}
use Rattle.text_sheets.proofs.Spaced.{at_most_twenty}
use Rattle.text_sheets.proofs.lines.write_before.Goals as goal

pub write_digits-requires : goal.write_digits-requires
write_digits-requires c =
    let digits = at_most_twenty c.args.number c.ranges.number.fits in
    let size = length-set c.args.line.now (c.args.at - 1) 32 in
    (omega (arith, digits, c.requires.room), omega (arith, size, c.told-line, c.requires.within))

pub returns-clause-room : goal.returns-clause-room
returns-clause-room c = omega (arith, at_most_twenty c.args.number c.ranges.number.fits, c.write_digits.ensures.start)
