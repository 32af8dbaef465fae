use Rattle.std.proofs.Common.{◌∙◌, sym}
use Rattle.mesh_check.proofs.Sides.{five_off}
use Rattle.mesh_check.proofs.cells.stays_in_plane.Goals as goal

pub outside-requires-clause-distinct : goal.outside-requires-clause-distinct
outside-requires-clause-distinct c =
    five_off c.args.a c.args.b c.args.c c.args.f c.args.p c.requires.distinct c.requires.off
    (sym c.is_corner.ensures ∙ c.if-is_corner.false) (sym c.flat.ensures ∙ c.if-not-flat.false)
