use Rattle.std.proofs.Common.{codes}
use Rattle.clap.specs.Words.{with_rule}
use Rattle.command_words.specs.Words.{alpha_option, index_option, meshing_command, most_option}
use Rattle.command_words.proofs.words.parts_command.Goals as goal

pub returns : goal.returns
returns c =
    let app = meshing_command (codes "parts") in
    let first = c.add-command.ensures app alpha_option c.meshing.ensures c.alpha.ensures.rule c.alpha.ensures.local in
    let second = c.add.ensures (with_rule app alpha_option) most_option first c.most_parts.ensures.rule
    c.most_parts.ensures.local in
    c.add-2.ensures (with_rule (with_rule app alpha_option) most_option) index_option second c.index.ensures.rule
    c.index.ensures.local
