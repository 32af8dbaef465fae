use Rattle.std.proofs.Common.{◌≡◌, false}
use Rattle.clap.specs.Words.{app_of, new_app, with_rule}
use Rattle.clap.specs.declared.builder.command.Command.TheViews.{out-Command}
use Rattle.command_words.specs.Words.{grid_option, workers_option}
use Rattle.command_words.proofs.words.meshing.Goals as goal

pub returns : goal.returns
returns c =
    let w = c.workers.ensures in
    let g = c.grid.ensures in
    let app = new_app c.args.name.now in
    let begun : (app_of c.new.result ≡ app) × ((out-Command c.new.result).has_globals ≡ false) =
    (c.new.ensures.app, c.new.ensures.local) in
    c.add-2.ensures (with_rule app workers_option) grid_option (c.add.ensures app workers_option begun w.rule w.local)
    g.rule g.local
