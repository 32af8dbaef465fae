use Rattle.std.proofs.Common.{codes}
use Rattle.command_words.specs.Words.{flag_of, meshing_command}
use Rattle.command_words.proofs.words.command.Goals as goal

pub returns : goal.returns
returns c = c.add.ensures (meshing_command c.args.name.now) (flag_of (codes "order")) c.meshing.ensures
    c.flag.ensures.rule c.flag.ensures.local
