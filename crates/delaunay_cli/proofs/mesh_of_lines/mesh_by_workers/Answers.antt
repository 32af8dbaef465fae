use Rattle.std.proofs.Common.{◌∙◌, sym, ap, subst, arith, [], List, ℕ, length}
use Rattle.std.specs.Prelude.{All}
use Rattle.edit_history.specs.OneThread.{one_thread}
use Rattle.cell_store.specs.Meshes.{MeshView}
use Rattle.edit_lists.specs.Dealing.{CanBeDone, count_all}
use Rattle.edit_lists.proofs.Cited.{are_opening}
use Rattle.delaunay_cli.proofs.DealtLines.{edits_done, edits_many, points_many, run_dealt, run_kept, run_of_one}
use Rattle.delaunay_cli.proofs.mesh_of_lines.mesh_by_workers.Goals as goal

pub run_edits-requires-clause-segments : goal.run_edits-requires-clause-segments
run_edits-requires-clause-segments g c =
    λ k l. subst (All CanBeDone) (sym c.in_ok-lists.ensures.dealt)
    (edits_done c.args.making.workers c.args.file.now.points.items c.args.file.now.edits.items c.args.making.some
    c.args.making.few)

pub run_edits-requires-clause-room : goal.run_edits-requires-clause-room
run_edits-requires-clause-room g c =
    let points = c.args.file.now.points.items in
    let h = ap (λ (m : MeshView). length m.history) c.in_ok-mesh.ensures
    ∙ ap (λ (p : List ℕ). length (one_thread p [])) c.deref.ensures.value in
    let n = points_many points c.args.four (are_opening points c.args.four c.requires.found) in
    let k = ap count_all c.in_ok-lists.ensures.dealt in
    let d = edits_many c.args.making.workers points c.args.file.now.edits.items c.args.making.some in
    let s = c.requires.small in
    omega (arith, h, n, k, d, s)

pub returns-clause-legal : goal.returns-clause-legal
returns-clause-legal g c = c.hold.ensures.stands.legal

-- the history that workers or one thread made keeps the file
pub returns-clause-kept : goal.returns-clause-kept
returns-clause-kept g c =
    let points = c.args.file.now.points.items in
    let edits = c.args.file.now.edits.items in
    let four = c.args.four in
    let opens = ap (λ (m : MeshView). m.history) c.in_ok-mesh.ensures
    ∙ ap (λ (p : List ℕ). one_thread p []) c.deref.ensures.value in
    let found = are_opening points four c.requires.found in
    let run = c.in_ok-mesh-2.ensures.run in
    let workers = c.args.making.workers in
    let some = c.args.making.some in
    let deals = c.in_ok-lists.ensures.dealt in
    record {
      keeps = run_kept points edits workers four found some _ deals _ _ opens run;
      alone = λ e. run_of_one points edits workers four found some _ deals _ _ opens run e c.hold.ensures.stands.legal;
      dealt = run_dealt points edits workers four found some _ deals _ _ opens run;
    }

pub returns-clause-grid : goal.returns-clause-grid
returns-clause-grid g c = c.in_ok-mesh-2.ensures.grid ∙ ap (λ (m : MeshView). m.grid) c.in_ok-mesh.ensures
