use Rattle.std.proofs.Common.{◌≡◌, rules, false, true, codes}
use Rattle.clap.specs.Simple.{on_top}
use Rattle.clap.specs.Words.{app_of, new_app}
use Rattle.clap.specs.declared.builder.command.Command.TheViews.{out-Command}
use Rattle.command_words.proofs.words.program.Goals as goal

pub returns : goal.returns
returns c =
    let begun : app_of c.subcommand_required.result ≡ on_top (λ top. record top { subcommand_required = true })
    (new_app (codes "delaunay")) = search rules in
    let meshed = c.with_command-program.ensures _ _ begun c.command.ensures in
    let shaped = c.with_command-program-2.ensures _ _ meshed c.command-2.ensures in
    let drawn = c.with_command-program-3.ensures _ _ shaped c.gen_command.ensures in
    let stepped = c.with_command-program-4.ensures _ _ drawn c.meshing.ensures in
    let parted = c.with_command-program-5.ensures _ _ stepped c.parts_command.ensures in
    let near = c.with_command-program-6.ensures _ _ parted c.meshing-2.ensures in
    let check : (app_of c.new-2.result ≡ new_app (codes "check"))
    × ((out-Command c.new-2.result).has_globals ≡ false) = (c.new-2.ensures.app, c.new-2.ensures.local) in
    c.with_command.ensures _ _ near check
