use Rattle.std.proofs.Common.{List, refl, length, sym, get_or}
use Rattle.std.specs.Prelude.{map, codes}
use Rattle.std.specs.List.{concat}
use Rattle.std.proofs.lemmas.List.{length-map}
use Rattle.edit_history.specs.declared.history.Reply.{Reply}
use Rattle.edit_history.specs.declared.history.Reply.TheVariants.{Inserted}
use Rattle.mesh_files.specs.Text.{reply_line}
use Rattle.text_sheets.proofs.Cited.{own_item, ends, goes_on, starts}
use Rattle.mesh_files.proofs.report.put_replies.Goals as goal

pub loop-reply-init : goal.loop-reply-init
loop-reply-init g c = starts (codes "replies") (map reply_line c.args.replies.now) (length c.args.replies.now)
    (sym (length-map c.args.replies.now reply_line)) c.put_title.ensures

pub loop-reply-preserved : goal.loop-reply-preserved
loop-reply-preserved g c =
    goes_on (λ (xs : List Reply). concat (map reply_line xs)) reply_line (λ x xs. refl) c.args.replies.now
    c.loop-reply.reply-index (get_or c.args.replies.now c.loop-reply.reply-index Inserted) c.loop-reply-test.true
    (own_item Inserted c.args.replies.now c.loop-reply.reply-index c.loop-reply-test.true) c.loop-reply.invariant
    c.put_reply.ensures

pub returns : goal.returns
returns g c =
    ends (λ (xs : List Reply). concat (map reply_line xs)) refl c.args.replies.now c.loop-reply.reply-index
    c.loop-reply-test.false c.loop-reply.invariant
