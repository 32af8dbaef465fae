use Rattle.std.proofs.Common.{◌∙◌, subst, sym}
use Rattle.point_order.specs.Sets.{IsAscending}
use Rattle.edit_history.proofs.Cited.{leaves_set}
use Rattle.linked_mesh.proofs.mesh.of_history.Goals as goal

pub of_points-requires-clause-ascending : goal.of_points-requires-clause-ascending
of_points-requires-clause-ascending c =
    subst IsAscending (sym c.requires.left) (leaves_set c.args.entries.items)

pub invariant_of-result : goal.invariant_of-result
invariant_of-result c = c.in_ok-set.ensures ∙ c.requires.left
