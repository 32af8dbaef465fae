use Rattle.std.proofs.Common.{arith, ap, subst, sym}
use Rattle.std.specs.Prelude.{All}
use Rattle.edit_lists.specs.Dealing.{CanBeDone, count_all}
use Rattle.delaunay_cli.proofs.DealtLines.{dealt_done, dealt_few}
use Rattle.worked_cases.proofs.dealing.made.Goals as goal

pub run_edits-requires-clause-segments : goal.run_edits-requires-clause-segments
run_edits-requires-clause-segments g c κs within =
    subst (All CanBeDone) (sym c.in_ok-lists.ensures.dealt)
    (dealt_done c.args.workers c.args.four c.args.file.now.points.items c.args.file.now.edits.items
    c.requires.workers.0 c.requires.workers.1)

pub run_edits-requires-clause-room : goal.run_edits-requires-clause-room
run_edits-requires-clause-room g c κs within =
    let k = ap count_all c.in_ok-lists.ensures.dealt in
    let d = dealt_few c.args.workers c.args.four c.args.file.now.points.items c.args.file.now.edits.items
    c.requires.workers.0 in
    omega (arith, k, d, c.requires.lines, c.requires.mesh)
