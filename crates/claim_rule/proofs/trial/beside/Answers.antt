use Rattle.std.proofs.Common.{◌≡◌, ℕ, List, ◌++◌, ◌∙◌, ap}
use Rattle.std.specs.List.{filter}
use Rattle.point_order.specs.declared.cell.Cell.{Cell}
use Rattle.point_order.specs.Complex.{complex}
use Rattle.point_order.specs.Facets.{points_of}
use Rattle.point_order.specs.Sets.{is_among}
use Rattle.edit_history.specs.declared.history.Edit.TheVariants.{Add}
use Rattle.edit_history.specs.Edits.{after}
use Rattle.cell_store.specs.Swaps.{without_cells}
use Rattle.claim_rule.proofs.trial.beside.Goals as goal

-- the cells beside a move are those that the new place takes away and those at the point once it is there
pub returns : goal.returns
returns c s sh =
    let set = c.in_ok-set.ensures s sh in
    let with_goal : c.in_ok-with_goal.with_goal.items ≡ complex (after s (Add c.args.b)) =
    c.in_ok-with_goal.ensures
    ∙ ap complex (c.points.ensures.points ∙ c.in_ok-after.ensures.set ∙ ap (λ (l : List ℕ). after l (Add c.args.b)) set)
    in
    let gone : c.in_ok-list.list.items ≡ without_cells (complex (after s (Add c.args.b))) c.args.all.now =
    c.in_ok-list.ensures ∙ ap (λ (l : List Cell). without_cells l c.args.all.now) (c.deref.ensures.value ∙ with_goal) in
    let at_a : c.in_ok-at_a.at_a.items ≡ filter (λ d. is_among c.args.a (points_of d))
    (complex (after s (Add c.args.b))) =
    c.in_ok-at_a.ensures
    ∙ ap (λ (l : List Cell). filter (λ d. is_among c.args.a (points_of d)) l) (c.deref-2.ensures.value ∙ with_goal) in
    c.in_ok-append.ensures.items ∙ (λ i. gone i ++ at_a i)
