use Rattle.clap.specs.Words.{found_of}
use Rattle.command_words.proofs.CommandLine.{flag_none, flag_some}
use Rattle.command_words.proofs.words.flag_in.Goals as goal

pub returns-in-Some : goal.returns-in-Some
returns-in-Some c = flag_some (found_of c.args.command.now) c.args.flag.now c.in-Some.text.now c.eq.result
    c.in-Some.ensures c.eq.ensures

pub returns-in-None : goal.returns-in-None
returns-in-None c = flag_none (found_of c.args.command.now) c.args.flag.now c.in-None.ensures
