use Rattle.std.proofs.Common.{sym, subst, List, arith}
use Rattle.cavity.specs.declared.cell_table.Mark.{Mark}
use Rattle.cavity.specs.Tables.{IsFreeFrom, KeepsReached}
use Rattle.cavity.proofs.Tables.{push_kept, push_reached, set_kept, set_reached}
use Rattle.cavity.proofs.cell_table.put.Goals as goal

pub returns-then-at-len-clause-reached : goal.returns-then-at-len-clause-reached
returns-then-at-len-clause-reached c =
    set_reached c.args.marks.now.items c.args.home c.free_from-at.result c.args.mark
    (subst (λ (l : List Mark). IsFreeFrom l c.args.home c.free_from-at.result) c.deref.ensures.value
    c.free_from-at.ensures) (omega arith)

pub returns-then-at-len-clause-kept : goal.returns-then-at-len-clause-kept
returns-then-at-len-clause-kept c =
    set_kept c.args.marks.now.items c.args.home c.free_from-at.result c.args.mark
    (subst (λ (l : List Mark). IsFreeFrom l c.args.home c.free_from-at.result) c.deref.ensures.value
    c.free_from-at.ensures)

pub returns-in_ok-push-clause-reached : goal.returns-in_ok-push-clause-reached
returns-in_ok-push-clause-reached c =
    push_reached c.args.marks.now.items c.args.home c.free_from-at.result c.args.mark
    (subst (λ (l : List Mark). IsFreeFrom l c.args.home c.free_from-at.result) c.deref.ensures.value
    c.free_from-at.ensures)
    c.push.new.self.items c.in_ok-push.ensures.items (omega arith)

pub returns-in_ok-push-clause-kept : goal.returns-in_ok-push-clause-kept
returns-in_ok-push-clause-kept c =
    push_kept c.args.marks.now.items c.args.home c.free_from-at.result c.args.mark
    (subst (λ (l : List Mark). IsFreeFrom l c.args.home c.free_from-at.result) c.deref.ensures.value
    c.free_from-at.ensures)
    c.push.new.self.items c.in_ok-push.ensures.items

pub returns-in_err-push-clause-kept : goal.returns-in_err-push-clause-kept
returns-in_err-push-clause-kept c = subst (KeepsReached c.args.marks.now.items) (sym c.in_err-push.ensures.items)
    (λ home i r. r)
