use Rattle.std.proofs.Common.{◌∙◌, ◌<◌, ℕ, inl, inr, subst, sym}
use Rattle.delaunay_c.proofs.Stops.{all_done, look_empty, look_first, look_outside, look_statuses, some_done}
use Rattle.delaunay_c.proofs.many.delaunay_c_nearest_many.Goals as goal

pub returns-clause-all : goal.returns-clause-all
returns-clause-all c e =
    all_done c.nearest_to_many-progress.result.refusal _ c.nearest_to_many-progress.ensures.all
    (sym c.status_of_many.ensures ∙ e)

pub returns-clause-some : goal.returns-clause-some
returns-clause-some c e n =
    some_done c.nearest_to_many-progress.result.refusal _ c.nearest_to_many-progress.ensures.some
    (subst (λ (k : ℕ). 0 < k) c.status_of_many.ensures e)

pub returns-clause-outside : goal.returns-clause-outside
returns-clause-outside c e =
    look_outside c.nearest_to_many-progress.result.refusal _ c.args.places.now c.nearest_to_many-progress.result.done
    c.nearest_to_many-progress.ensures.stop (sym c.status_of_many.ensures ∙ e)

pub returns-clause-first : goal.returns-clause-first
returns-clause-first c e =
    look_first c.nearest_to_many-progress.result.refusal _ c.args.places.now c.nearest_to_many-progress.result.done
    c.nearest_to_many-progress.ensures.stop (sym c.status_of_many.ensures ∙ e)

pub returns-clause-empty : goal.returns-clause-empty
returns-clause-empty c e =
    look_empty c.nearest_to_many-progress.result.refusal _ c.args.places.now c.nearest_to_many-progress.result.done
    c.nearest_to_many-progress.ensures.stop (sym c.status_of_many.ensures ∙ e)

pub returns-clause-statuses : goal.returns-clause-statuses
returns-clause-statuses c =
    let is = c.status_of_many.ensures in
    let told =
    look_statuses c.nearest_to_many-progress.result.refusal _ c.args.places.now c.nearest_to_many-progress.result.done
    c.nearest_to_many-progress.ensures.stop in
    elim told [
      | inl e ↦ inl (is ∙ e)
      | inr s ↦ elim s [ inl e ↦ inr (inl (is ∙ e)) | inr e ↦ inr (inr (inr (is ∙ e))) ]
    ]
