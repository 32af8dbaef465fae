use Rattle.std.proofs.Common.{◌∙◌, ◌<◌, ◌≤◌, ◌⊎◌, ℕ, subst, sym}
use Rattle.delaunay_c.proofs.Stops.{all_done, edit_empty, edit_first, edit_full, edit_outside, edit_statuses}
use Rattle.delaunay_c.proofs.Stops.{edit_unknown, some_done}
use Rattle.delaunay_c.proofs.many.delaunay_c_edit_many.Goals as goal

pub returns-clause-all : goal.returns-clause-all
returns-clause-all c e =
    all_done c.edit_many-progress.result.refusal _ c.edit_many-progress.ensures.all
    (sym c.status_of_many.ensures ∙ e)

pub returns-clause-some : goal.returns-clause-some
returns-clause-some c e n =
    some_done c.edit_many-progress.result.refusal _ c.edit_many-progress.ensures.some
    (subst (λ (k : ℕ). 0 < k) c.status_of_many.ensures e)

pub returns-clause-outside : goal.returns-clause-outside
returns-clause-outside c e =
    edit_outside c.edit_many-progress.result.refusal _ c.args.edits.now c.edit_many-progress.result.done
    c.edit_many-progress.ensures.stop (sym c.status_of_many.ensures ∙ e)

pub returns-clause-first : goal.returns-clause-first
returns-clause-first c e n m =
    edit_first c.edit_many-progress.result.refusal _ c.args.edits.now c.edit_many-progress.result.done
    c.edit_many-progress.ensures.stop
    (subst (λ (k : ℕ). 0 < k) c.status_of_many.ensures e) (λ is. n (c.status_of_many.ensures ∙ is))

pub returns-clause-empty : goal.returns-clause-empty
returns-clause-empty c e =
    edit_empty c.edit_many-progress.result.refusal _ c.args.edits.now c.edit_many-progress.result.done
    c.edit_many-progress.ensures.stop (sym c.status_of_many.ensures ∙ e)

pub returns-clause-full : goal.returns-clause-full
returns-clause-full c e =
    edit_full c.edit_many-progress.result.refusal _ c.args.edits.now c.edit_many-progress.result.done
    c.edit_many-progress.ensures.stop (sym c.status_of_many.ensures ∙ e)

pub returns-clause-unknown : goal.returns-clause-unknown
returns-clause-unknown c e =
    edit_unknown c.edit_many-progress.result.refusal _ c.args.edits.now c.edit_many-progress.result.done
    c.edit_many-progress.ensures.stop (sym c.status_of_many.ensures ∙ e)

pub returns-clause-statuses : goal.returns-clause-statuses
returns-clause-statuses c =
    subst (λ (k : ℕ). (k ≤ 2) ⊎ ((4 ≤ k) × (k ≤ 7))) (sym c.status_of_many.ensures)
    (edit_statuses c.edit_many-progress.result.refusal)
