use Rattle.edit_files.specs.Held.{content}
use Rattle.edit_files.specs.Generator.{generated}
use Rattle.command_ends.proofs.Cited.{drawn_lines, drawn_meshed, drawn_radii, unmeshed_drawn, wanting}
use Rattle.delaunay_cli.proofs.drawn.draw.Goals as goal

pub history_and_parts-requires-clause-lines : goal.history_and_parts-requires-clause-lines
history_and_parts-requires-clause-lines g c κs within =
    drawn_lines (content c.in_ok-file.file) c.args.drawn.count c.args.drawn.start c.args.drawn.few c.in_ok-file.ensures

pub history_and_parts-requires-clause-radii : goal.history_and_parts-requires-clause-radii
history_and_parts-requires-clause-radii g c κs within = drawn_radii (content c.in_ok-file.file) c.args.drawn.count
    c.args.drawn.start c.in_ok-file.ensures

pub returns-in_err-kept-clause-stop : goal.returns-in_err-kept-clause-stop
returns-in_err-kept-clause-stop g c =
    let stop = c.in_err-kept.field-0.0 in
    wanting c.from_residual-in_err-kept.result stop c.from_residual-in_err-kept.ensures.1
    (unmeshed_drawn (content c.in_ok-file.file) c.args.drawn.count c.args.drawn.start c.in_ok-file.ensures stop
    c.in_err-kept.ensures.stop)

pub returns-clause-made : goal.returns-clause-made
returns-clause-made g c =
    drawn_meshed c.args.drawn.text c.args.making.workers (content c.in_ok-file.file)
    (generated c.args.drawn.count c.args.drawn.start) c.in_ok-kept.kept.items _ c.if-drawn.false
    c.in_ok-file.ensures c.in_ok-kept.ensures.made

pub returns-clause-sound : goal.returns-clause-sound
returns-clause-sound g c = record {
  legal = c.in_ok-kept.ensures.made.legal;
  writable = c.in_ok-kept.ensures.ready;
  late = tt;
}
