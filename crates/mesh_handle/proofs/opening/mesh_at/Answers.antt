use Rattle.std.proofs.Common.{◌∙◌, ◌≡◌, [], Some, List, ℕ, ap, subst, sym}
use Rattle.std.specs.Option.{option_map}
use Rattle.edit_history.specs.Opening.{opening_four}
use Rattle.edit_history.specs.OneThread.{one_thread, places}
use Rattle.mesh_rows.specs.Meshes.{IsSetOf}
use Rattle.point_history.proofs.Cited.{leaves_points, set_is}
use Rattle.mesh_handle.proofs.opening.mesh_at.Goals as goal

pub returns-clause-points : goal.returns-clause-points
returns-clause-points c =
    let points = c.in_ok-points.points.items in
    let four = c.in-Ok.four in
    let set = c.in_ok-points.ensures.set in
    let found = subst (λ (l : List ℕ). option_map places (opening_four l) ≡ Some four) c.deref.ensures.value
    c.in-Ok.ensures.found in
    let is = c.in_ok-mesh.ensures
    ∙ ap (λ (l : List ℕ). one_thread l []) c.deref-2.ensures.value in
    let left = leaves_points points four c.in_ok-mesh.mesh c.one_thread_is_legal.ensures.replay found is in
    let same = set_is points points set.set.ascending (λ p. (λ m. m, λ m. m)) in
    subst (IsSetOf c.args.given.now) (same ∙ sym left) set
