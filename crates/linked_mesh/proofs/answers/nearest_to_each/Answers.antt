use Rattle.std.proofs.Common.{◌++◌, ◌∷◌, [], sym, subst, List, ℕ, take}
use Rattle.list_laws.proofs.Cited.{take_next, zip_push}
use Rattle.edit_history.specs.Histories.{replay}
use Rattle.nearest_points.specs.declared.answers.Near.{Near}
use Rattle.nearest_points.specs.Points.{AreNear, IsNear}
use Rattle.linked_mesh.proofs.answers.nearest_to_each.Goals as goal

pub loop-q-preserved : goal.loop-q-preserved
loop-q-preserved c =
    let s = replay c.args.mesh.now in
    let queries = c.args.queries.now in
    let q = c.q-item.result in
    let more = zip_push (IsNear s) (take c.loop-q.q-index queries) c.loop-q.nears.items q c.answer_to.result
    c.loop-q.invariant c.answer_to.ensures in
    subst (λ (l : List ℕ). AreNear s l c.push.new.self.items)
    (sym (take_next queries c.loop-q.q-index q c.loop-q-test.true c.q-item.is))
    (subst (λ (l : List Near). AreNear s (take c.loop-q.q-index queries ++ q ∷ []) l)
    (sym c.in_ok-push.ensures.items) more)
