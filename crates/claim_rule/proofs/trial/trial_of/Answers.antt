use Rattle.std.proofs.Common.{◌≡◌, ◌∙◌, ap, List}
use Rattle.std.specs.Prelude.{ℕ}
use Rattle.point_order.specs.Complex.{complex}
use Rattle.edit_history.specs.Edits.{reply_to, after}
use Rattle.cell_store.specs.Swaps.{without_cells}
use Rattle.claim_rule.specs.Trials.{near_cells}
use Rattle.claim_rule.proofs.Trials.{found_trial}
use Rattle.claim_rule.proofs.trial.trial_of.Goals as goal

-- what is found from the complexes before and after is the trial of the edit
pub returns : goal.returns
returns c s sh =
    let set = c.in_ok-set.ensures s sh in
    let edit = c.args.edit in
    let before = c.in_ok-before.before.items in
    let next = c.in_ok-after.after.items in
    let b : before ≡ complex s = c.in_ok-before.ensures ∙ ap complex (c.points.ensures.points ∙ set) in
    let n : next ≡ complex (after s edit) = c.in_ok-after.ensures
    ∙ ap complex (c.points-2.ensures.points ∙ c.in_ok-reply.ensures.set ∙ ap (λ (l : List ℕ). after l edit) set) in
    let reply : c.in_ok-reply.reply ≡ reply_to s edit =
    c.in_ok-reply.ensures.reply ∙ ap (λ (l : List ℕ). reply_to l edit) set in
    found_trial s edit (record {
      reply = c.in_ok-reply.reply;
      gone = c.in_ok-gone.gone;
      fresh = c.in_ok-fresh.fresh;
      near = c.in_ok-near.near;
    }) before next sh.ascending reply b n
    (c.in_ok-gone.ensures ∙ (λ i. without_cells (c.deref-2.ensures.value i) (c.deref.ensures.value i)))
    (c.in_ok-fresh.ensures ∙ (λ i. without_cells (c.deref-4.ensures.value i) (c.deref-3.ensures.value i)))
    (c.in_ok-near.ensures s sh reply ∙ (λ i. near_cells s edit (c.deref-5.ensures.value i) (c.deref-6.ensures.value i)))
