use Rattle.std.proofs.Common.{◌∙◌, sym, subst}
use Rattle.point_order.specs.Sets.{IsAscending}
use Rattle.one_mesh.proofs.CloudSets.{set_solid}
use Rattle.one_mesh.proofs.clouds.begin_cloud_by_threads.Goals as goal

pub complex_by_threads-requires-clause-ascending : goal.complex_by_threads-requires-clause-ascending
complex_by_threads-requires-clause-ascending g c =
    λ k l. subst IsAscending (sym c.deref.ensures.value) c.in_ok-set.ensures.ascending

pub complex_by_threads-requires-clause-solid : goal.complex_by_threads-requires-clause-solid
complex_by_threads-requires-clause-solid g c =
    λ k l. set_solid c.args.points.now c.args.four c.deref.result.now c.solidity_is_of_the_set.ensures c.requires.found
    (c.deref.ensures.value ∙ c.in_ok-set.ensures.set)

pub mesh_of_set-requires-clause-solid : goal.mesh_of_set-requires-clause-solid
mesh_of_set-requires-clause-solid g c =
    set_solid c.args.points.now c.args.four c.deref-2.result.now c.solidity_is_of_the_set.ensures c.requires.found
    (c.deref-2.ensures.value ∙ c.in_ok-set.ensures.set)
