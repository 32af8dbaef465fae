use Rattle.clap.specs.Words.{found_of}
use Rattle.command_words.proofs.CommandLine.{number_none, number_some}
use Rattle.command_words.proofs.words.number_in.Goals as goal

pub returns-in-Some-clause-value : goal.returns-in-Some-clause-value
returns-in-Some-clause-value c =
    number_some (found_of c.args.command.now) c.args.option.now c.in-Some.text.now c.args.least c.args.most
    c.number_between.result c.in-Some.ensures c.number_between.ensures.value

pub returns-in-None-clause-value : goal.returns-in-None-clause-value
returns-in-None-clause-value c = number_none (found_of c.args.command.now) c.args.option.now c.args.least c.args.most
    c.in-None.ensures
