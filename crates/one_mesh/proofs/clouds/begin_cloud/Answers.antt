use Rattle.std.proofs.Common.{◌∙◌, sym, subst}
use Rattle.point_order.specs.Sets.{IsAscending}
use Rattle.one_mesh.proofs.CloudSets.{set_solid}
use Rattle.one_mesh.proofs.clouds.begin_cloud.Goals as goal

pub complex_of_points-requires-clause-ascending : goal.complex_of_points-requires-clause-ascending
complex_of_points-requires-clause-ascending c =
    subst IsAscending (sym c.deref.ensures.value) c.in_ok-set.ensures.ascending

pub complex_of_points-requires-clause-solid : goal.complex_of_points-requires-clause-solid
complex_of_points-requires-clause-solid c =
    set_solid c.args.points.now c.args.four c.deref.result.now c.solidity_is_of_the_set.ensures c.requires.found
    (c.deref.ensures.value ∙ c.in_ok-set.ensures.set)

pub mesh_of_set-requires-clause-solid : goal.mesh_of_set-requires-clause-solid
mesh_of_set-requires-clause-solid c =
    set_solid c.args.points.now c.args.four c.deref-2.result.now c.solidity_is_of_the_set.ensures c.requires.found
    (c.deref-2.ensures.value ∙ c.in_ok-set.ensures.set)
