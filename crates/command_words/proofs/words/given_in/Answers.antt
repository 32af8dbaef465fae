use Rattle.clap.specs.Words.{found_of}
use Rattle.command_words.proofs.CommandLine.{given_none, given_some}
use Rattle.command_words.proofs.words.given_in.Goals as goal

pub returns-in-Some : goal.returns-in-Some
returns-in-Some c =
    given_some (found_of c.args.command.now) c.args.option.now c.in-Some.text.now c.args.most c.number_between.result
    c.in-Some.ensures c.number_between.ensures.value

pub returns-in-None : goal.returns-in-None
returns-in-None c = given_none (found_of c.args.command.now) c.args.option.now c.args.most c.in-None.ensures
