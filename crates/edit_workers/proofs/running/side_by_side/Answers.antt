use Rattle.std.proofs.Common.{ap, sym, ◌∙◌}
use Rattle.std.proofs.lemmas.List.{length-map}
use Rattle.cell_store.specs.Meshes.{MeshView}
use Rattle.edit_lists.specs.declared.lists.List as lists
use Rattle.edit_lists.specs.Dealing.{pairs_in}
use Rattle.edit_workers.proofs.Halves.{mesh_run}
use Rattle.edit_workers.proofs.running.side_by_side.Goals as goal

pub returns-clause-run : goal.returns-clause-run
returns-clause-run g c =
    let opened = c.in_ok-table.ensures in
    mesh_run (pairs_in c.args.lists.now) c.in_ok-pass.left.pairs.items c.in_ok-table.table _ c.in_ok-table.pass
    c.in_ok-pass.pass c.args.mesh.history c.close.result.history
    opened.pass (opened.parts ∙ sym (length-map c.args.lists.now (λ (l : lists.List). l.pairs.items))) opened.opening
    c.in_ok-pass.ensures (ap (λ (m : MeshView). m.history) c.close.ensures.mesh)
