use Rattle.std.proofs.Common.{subst, sym}
use Rattle.mesh_rows.specs.Across.{IsToldAcross}
use Rattle.mesh_rows.proofs.Others.{told_across}
use Rattle.mesh_rows.proofs.across.across.Goals as goal

pub returns : goal.returns
returns c =
    subst (IsToldAcross c.args.cells.now c.args.n c.args.tri.now) (sym c.told_of.ensures)
    (told_across c.args.cells.now c.requires.cells c.args.n c.args.tri.now c.other.result c.other.ensures)
