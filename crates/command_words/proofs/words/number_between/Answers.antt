use Rattle.std.proofs.Common.{arith}
use Rattle.command_words.proofs.CommandLine.{number_read, number_not_read}
use Rattle.command_words.proofs.words.number_between.Goals as goal

pub returns-in-Ok-clause-value : goal.returns-in-Ok-clause-value
returns-in-Ok-clause-value c =
    let v = c.in-Ok.ensures.value in
    number_read c.args.text.now c.args.least c.args.most c.in-Ok.number v.0.0.0 v.0.0.1 v.0.1 c.if-least-number.true
    c.if-number-most.true

pub returns-in_default-3-clause-value : goal.returns-in_default-3-clause-value
returns-in_default-3-clause-value c =
    let v = c.in_default.ensures.value in
    number_not_read c.args.text.now c.args.least c.args.most (omega arith)
    (λ numeral small from within. v.0 (numeral, small))
