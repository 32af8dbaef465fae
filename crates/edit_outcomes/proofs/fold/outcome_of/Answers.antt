use Rattle.std.specs.Prelude.{List, [], ◌∷◌, ◌++◌, take}
use Rattle.std.proofs.Common.{◌∙◌, ap, subst, sym}
use Rattle.list_laws.proofs.Cited.{take_next}
use Rattle.edit_history.specs.Edits.{reply_to}
use Rattle.edit_history.specs.declared.history.Edit.{Edit}
use Rattle.edit_history.specs.declared.history.Reply.{Reply}
use Rattle.edit_outcomes.specs.Folding.{StandsFor}
use Rattle.edit_outcomes.specs.Outcomes.{left, replies}
use Rattle.edit_outcomes.proofs.Outcomes.{left_more, replies_more}
use Rattle.edit_outcomes.proofs.fold.outcome_of.Goals as goal

-- one edit more
pub loop-edit-preserved : goal.loop-edit-preserved
loop-edit-preserved c =
    let i = c.loop-edit.invariant in
    let s = c.args.set.now.keys in
    let n = c.loop-edit.edit-index in
    let x = c.edit-item.result in
    let front = take n c.args.edits.now in
    let next = take_next c.args.edits.now n x c.loop-edit-test.true c.edit-item.is in
    let answer = c.in_ok-reply.ensures.reply (left s front) i.stands in
    record {
      told = c.in_ok-push.ensures.items
          ∙ ap (λ (r : Reply). c.loop-edit.replies.items ++ r ∷ []) answer
          ∙ ap (λ (l : List Reply). l ++ reply_to (left s front) x ∷ []) i.told
          ∙ sym (replies_more s front x)
          ∙ ap (replies s) (sym next);
      stands = subst (λ (l : List Edit). StandsFor s (left s l) c.make.new.self) (sym next)
          (subst (λ u. StandsFor s u c.make.new.self) (sym (left_more s front x))
          (c.in_ok-reply.ensures.set (left s front) i.stands));
    }
