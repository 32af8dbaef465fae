use Rattle.std.proofs.Common.{sym, subst}
use Rattle.edit_files.specs.Held.{content}
use Rattle.command_pages.specs.Run.{IsKept}
use Rattle.delaunay_cli.proofs.mesh_of_lines.lists_of_lines.Goals as goal

pub returns-then-making-eq1-clause-kept : goal.returns-then-making-eq1-clause-kept
returns-then-making-eq1-clause-kept g c =
    subst (IsKept (content c.args.file.now) c.args.making.workers) (sym c.in_ok-lists.ensures.history)
    (c.in_ok-mesh.ensures.kept c.args.making.workers c.args.making.some)
