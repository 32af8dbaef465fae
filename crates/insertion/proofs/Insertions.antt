-- The entry of a new point.
use Rattle.std.specs.Prelude.{◌≡◌, ℕ, cond, List}
use Rattle.std.proofs.Common.{sym, ◌∙◌, ap, subst}
use Rattle.list_laws.proofs.Cited.{among_from, false_if}
use Rattle.point_order.specs.Complex.{complex}
use Rattle.point_order.specs.Sets.{is_among, with_point}
use Rattle.edit_history.specs.declared.history.Edit.TheVariants.{Add}
use Rattle.edit_history.specs.declared.history.Entry.{Entry}
use Rattle.edit_history.specs.declared.history.Reply.TheVariants.{Inserted, Duplicate}
use Rattle.edit_history.specs.Edits.{point_of, reply_to, changed, after}
use Rattle.edit_history.specs.Histories.{replay}
use Rattle.cell_changes.specs.Changes.{IsChange}
use Rattle.insertion.specs.Entries.{IsInsertion, InsertionFollows}

-- it is inserted
reply_new : (h : List Entry) (e : Entry) → IsInsertion h e → reply_to (replay h) (Add (point_of e.edit)) ≡ Inserted
reply_new h e i =
    let p = point_of e.edit in
    ap (λ b. cond b Duplicate Inserted) (false_if (is_among p (replay h)) (λ t. i.absent (among_from p (replay h) t)))

-- and is there after it
pub left_by : (h : List Entry) (e : Entry) → IsInsertion h e → after (replay h) e.edit ≡ with_point (point_of e.edit)
    (replay h)
left_by h e i = ap (after (replay h)) i.edit ∙ ap (changed (replay h) (point_of e.edit)) (reply_new h e i)

-- the entry of a new point follows, with the cells that go and come
pub insertion_follows : InsertionFollows
insertion_follows h e gone fresh i f = record {
  number = i.number;
  reply = i.reply ∙ sym (reply_new h e i) ∙ ap (reply_to (replay h)) (sym i.edit);
  change = subst (λ (s : List ℕ). IsChange (complex (replay h)) (complex s) gone fresh) (sym (left_by h e i)) f.change;
}
