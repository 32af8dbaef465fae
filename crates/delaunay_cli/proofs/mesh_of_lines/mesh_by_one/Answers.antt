use Rattle.std.specs.Prelude.{◌≡◌, [], List, Some, length, option_map, ℕ}
use Rattle.std.proofs.Common.{◌∙◌, ap, arith, subst, sym}
use Rattle.edit_history.specs.declared.history.Edit.{Edit}
use Rattle.edit_history.specs.declared.history.Entry.{Entry}
use Rattle.edit_history.specs.Histories.{IsLegal}
use Rattle.edit_history.specs.Laws.{LegalLaw}
use Rattle.edit_history.specs.Opening.{opening_four}
use Rattle.edit_history.specs.OneThread.{one_thread, places}
use Rattle.edit_files.specs.Held.{content}
use Rattle.edit_lists.proofs.Cited.{are_opening}
use Rattle.edit_workers.specs.Alone.{with_edits}
use Rattle.command_pages.proofs.Cited.{kept_by_any}
use Rattle.delaunay_cli.proofs.DealtLines.{points_many}
use Rattle.delaunay_cli.proofs.OneWorker.{made_by_one}
use Rattle.delaunay_cli.proofs.mesh_of_lines.mesh_by_one.Goals as goal

pub run_in_order-requires-clause-room : goal.run_in_order-requires-clause-room
run_in_order-requires-clause-room g c =
    let points = c.args.file.now.points.items in
    let h = ap length (c.in_ok-mesh.ensures ∙ ap (λ (p : List ℕ). one_thread p []) c.deref.ensures.value) in
    let n = points_many points c.args.four (are_opening points c.args.four c.requires.found) in
    let e = ap length c.deref-2.ensures.value in
    let s = c.requires.small in
    omega (arith, h, n, e, s)

-- the worker has made the history of one thread
made :
    (points : List ℕ) (edits : List Edit) (four : List ℕ) (found : option_map places (opening_four points) ≡ Some four)
    (legal : LegalLaw) (begun : List ℕ) (todo : List Edit) (h k : List Entry) (first : ℕ) →
    h ≡ one_thread begun [] → begun ≡ points → first ≡ length points → k ≡ with_edits h first todo → todo ≡ edits →
    k ≡ one_thread points edits
made points edits four found legal begun todo h k first e b n m t =
    made_by_one points edits four (are_opening points four found) (legal points []) h k first
    (e ∙ ap (λ (p : List ℕ). one_thread p []) b) n (m ∙ ap (with_edits h first) t)

pub returns-clause-kept : goal.returns-clause-kept
returns-clause-kept g c =
    let points = c.args.file.now.points.items in
    let n : c.len-first.result ≡ length points = omega (
      arith,
      c.len-first.ensures,
      c.deref.ensures.len,
      ap length c.deref.ensures.value,
    ) in
    kept_by_any (content c.args.file.now) c.args.four c.in_ok-mesh-2.mesh c.one_thread_is_legal.ensures.keeps
    c.requires.found (made points c.args.file.now.edits.items c.args.four c.requires.found
    c.one_thread_is_legal.ensures.legal c.deref.result.now c.deref-2.result.now c.in_ok-mesh.mesh c.in_ok-mesh-2.mesh
    c.len-first.result c.in_ok-mesh.ensures c.deref.ensures.value n c.in_ok-mesh-2.ensures c.deref-2.ensures.value)

pub returns-clause-legal : goal.returns-clause-legal
returns-clause-legal g c =
    let points = c.args.file.now.points.items in
    let edits = c.args.file.now.edits.items in
    let n : c.len-first.result ≡ length points = omega (
      arith,
      c.len-first.ensures,
      c.deref.ensures.len,
      ap length c.deref.ensures.value,
    ) in
    subst IsLegal (sym (made points edits c.args.four c.requires.found c.one_thread_is_legal.ensures.legal
    c.deref.result.now c.deref-2.result.now c.in_ok-mesh.mesh c.in_ok-mesh-2.mesh c.len-first.result
    c.in_ok-mesh.ensures c.deref.ensures.value n c.in_ok-mesh-2.ensures c.deref-2.ensures.value))
    (c.one_thread_is_legal.ensures.legal points edits)
