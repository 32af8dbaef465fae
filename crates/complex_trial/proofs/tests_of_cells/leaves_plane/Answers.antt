use Rattle.std.proofs.Common.{◌∙◌, sym}
use Rattle.complex_trial.proofs.Apart.{five_off}
use Rattle.complex_trial.proofs.tests_of_cells.leaves_plane.Goals as goal

pub outside-requires-clause-distinct : goal.outside-requires-clause-distinct
outside-requires-clause-distinct c =
    five_off c.args.a c.args.b c.args.c c.args.mate c.args.e c.requires.distinct c.requires.above
    (sym c.is_corner.ensures ∙ c.if-is_corner.false) (sym c.flat.ensures ∙ c.if-not-flat.false)
