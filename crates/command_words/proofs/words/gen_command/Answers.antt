use Rattle.std.proofs.Common.{codes}
use Rattle.clap.specs.Words.{with_rule}
use Rattle.command_words.specs.Words.{flag_of, meshing_command, count_option, start_option}
use Rattle.command_words.proofs.words.gen_command.Goals as goal

pub returns : goal.returns
returns c =
    let app = meshing_command (codes "gen") in
    let count = count_option in
    let start = start_option in
    let counted = c.add-command.ensures app count c.meshing.ensures c.count.ensures.rule c.count.ensures.local in
    let started = c.add.ensures (with_rule app count) start counted c.start.ensures.rule c.start.ensures.local in
    c.add-2.ensures (with_rule (with_rule app count) start) (flag_of (codes "text")) started c.flag.ensures.rule
    c.flag.ensures.local
