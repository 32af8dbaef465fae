use Rattle.std.proofs.Common.{List, refl, get_or}
use Rattle.std.specs.Prelude.{map}
use Rattle.std.specs.List.{concat}
use Rattle.edit_history.specs.declared.history.Reply.{Reply}
use Rattle.edit_history.specs.declared.history.Reply.TheVariants.{Inserted}
use Rattle.mesh_files.specs.Summary.{reply_count_line}
use Rattle.text_sheets.proofs.Cited.{own_item, ends, goes_on, leaves_all}
use Rattle.mesh_files.proofs.summary.put_reply_counts.Goals as goal

pub loop-kind-init : goal.loop-kind-init
loop-kind-init g c = leaves_all

pub loop-kind-preserved : goal.loop-kind-preserved
loop-kind-preserved g c =
    goes_on (λ (xs : List Reply). concat (map (reply_count_line c.args.replies.now) xs))
    (reply_count_line c.args.replies.now) (λ x xs. refl) c.args.kinds.now c.loop-kind.kind-index
    (get_or c.args.kinds.now c.loop-kind.kind-index Inserted) c.loop-kind-test.true
    (own_item Inserted c.args.kinds.now c.loop-kind.kind-index c.loop-kind-test.true) c.loop-kind.invariant
    c.put_reply_count.ensures

pub returns : goal.returns
returns g c =
    ends (λ (xs : List Reply). concat (map (reply_count_line c.args.replies.now) xs)) refl c.args.kinds.now
    c.loop-kind.kind-index c.loop-kind-test.false c.loop-kind.invariant
