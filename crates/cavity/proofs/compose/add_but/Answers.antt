use Rattle.std.proofs.Common.{◌∙◌, ap, refl}
use Rattle.list_laws.proofs.Cited.{gather_none, gather_push, gather_skip, gathers, not_both}
use Rattle.cavity.specs.Both.{IsOtherThan}
use Rattle.cavity.proofs.compose.add_but.Goals as goal
use Rattle.cavity.proofs.compose.add_but.Goals.{then-not-has_cell+in_ok-push, else-not-has_cell}

pub loop-c-init : goal.loop-c-init
loop-c-init c = gather_none (IsOtherThan c.args.others.now) c.args.cells.now c.args.list.now.items

pub loop-c-preserved : goal.loop-c-preserved
loop-c-preserved c =
    let x = c.c-item.result in
    let l = c.loop-c in
    elim c.if-not-has_cell.branch [
      | then-not-has_cell+in_ok-push w ↦ gather_push (IsOtherThan c.args.others.now) c.args.cells.now l.c-index
          c.args.list.now.items l.list.items c.if-not-has_cell.list.items x x x c.loop-c-test.true c.c-item.is
          (refl, λ m. not_both c.has_cell.result (c.has_cell.ensures.1 m) w.if-not-has_cell.true) (λ z r. r.0)
          (ap (λ v. v.items) w.list-is ∙ w.in_ok-push.ensures.items) l.invariant
      | else-not-has_cell w ↦ rw w.list-is (gather_skip (IsOtherThan c.args.others.now) c.args.cells.now l.c-index
          c.args.list.now.items l.list.items x x c.loop-c-test.true c.c-item.is
          (λ z r. r.1 (c.has_cell.ensures.0 w.if-not-has_cell.false)) l.invariant)
    ]

pub returns : goal.returns
returns c = gathers (IsOtherThan c.args.others.now) c.args.cells.now c.loop-c.c-index c.args.list.now.items
    c.loop-c.list.items c.loop-c-test.false c.loop-c.invariant
