use Rattle.std.proofs.Common.{ap, ◌∙◌, Bool}
use Rattle.std.specs.Prelude.{if◌then◌else◌}
use Rattle.point_order.specs.Sets.{is_among}
use Rattle.edit_history.specs.declared.history.Reply.TheVariants.{Duplicate, Inserted}
use Rattle.edit_history.proofs.SetEdits.{ascending_inserted}
use Rattle.edit_history.proofs.point_set.PointSet.add.Goals as goal

pub returns-in-Ok-clause-reply : goal.returns-in-Ok-clause-reply
returns-in-Ok-clause-reply c =
    let there = c.in-Ok.ensures.there ∙ ap (is_among c.args.p) (c.deref.ensures.value ∙ c.self.view_is) in
    ap (λ (b : Bool). if b then Duplicate else Inserted) there

pub invariant_of-self-in-Err : goal.invariant_of-self-in-Err
invariant_of-self-in-Err c =
    rw c.in_ok-insert-in-Err.ensures.items
    (ascending_inserted c.self.inside.points.items c.deref.result.now c.args.p c.in-Err.i c.deref.ensures.value
    c.in-Err.ensures.absent.1 c.self.invariant)
