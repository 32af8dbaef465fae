use Rattle.std.proofs.Common.{◌∙◌, ap, subst, sym}
use Rattle.point_order.specs.Sets.{IsAscending}
use Rattle.point_order.specs.Solid.{is_solid}
use Rattle.point_history.proofs.Cited.{leaves_points, solid_by}
use Rattle.linked_mesh.proofs.mesh.begin_cloud.Goals as goal

pub of_points-requires-clause-ascending : goal.of_points-requires-clause-ascending
of_points-requires-clause-ascending c = subst IsAscending (sym c.deref.ensures.value) c.in_ok-sorted.ensures.ascending

pub of_points-requires-clause-solid : goal.of_points-requires-clause-solid
of_points-requires-clause-solid c =
    ap is_solid (c.deref.ensures.value ∙ c.in_ok-sorted.ensures.set)
    ∙ c.solidity_is_of_the_set.ensures c.args.points.now ∙ solid_by c.args.points.now c.args.four c.requires.found

pub invariant_of-result : goal.invariant_of-result
invariant_of-result c =
    let points = c.args.points.now in
    c.in_ok-set.ensures ∙ c.deref.ensures.value ∙ c.in_ok-sorted.ensures.set
    ∙ sym (leaves_points points c.args.four c.in_ok-entries.entries.items c.one_thread_is_legal.ensures.replay
    c.requires.found c.in_ok-entries.ensures)
