use Rattle.std.proofs.Common.{ap, ◌∙◌}
use Rattle.cell_store.specs.Meshes.{MeshView}
use Rattle.edit_workers.proofs.Segments.{applied_one}
use Rattle.edit_workers.proofs.running.apply_all.Goals as goal

pub loop-tag-preserved : goal.loop-tag-preserved
loop-tag-preserved c = record {
  applied = applied_one c.args.pairs.now c.loop-tag.tag-index c.loop-tag-item.result c.args.mesh.now.history
      c.loop-tag.mesh c.apply.new.mesh c.loop-tag-test.true c.loop-tag-item.is c.loop-tag.invariant.applied
      c.in_ok-apply.ensures.applied;
  grid = ap (λ (m : MeshView). m.grid) c.in_ok-apply.ensures.applied ∙ c.loop-tag.invariant.grid;
}
