use Rattle.std.proofs.Common.{sym, ◌∙◌, arith, subst, ℕ, List, refl, get_or}
use Rattle.cell_stars.proofs.Least.{Found, passed_one, lesser_one, all_taken, free_place, not_behind, test_false}
use Rattle.cell_stars.proofs.Least.{not_less_one}
use Rattle.cell_stars.proofs.star.least_behind.Goals as goal
use Rattle.cell_stars.proofs.star.least_behind.Goals.{in-Some+then-is_behind+then-not-is_before, in-Some+else-is_behind}
use Rattle.cell_stars.proofs.star.least_behind.Goals.{else-is_behind-via-then-is_behind+else-not-is_before}
use Rattle.cell_stars.proofs.star.least_behind.Goals.{else-is_behind-via-else-is_behind, in_default}

-- the cell at the next place is the least so far, or it is passed over
pub loop-i-preserved : goal.loop-i-preserved
loop-i-preserved c =
    let slots = c.args.slots.now in
    let star = c.args.star.now in
    let bound = c.args.bound.now in
    let i = c.loop-i.i-index in
    let x = get_or star i 0 in
    elim c.match-cell_at.branch [
      | in-Some+then-is_behind+then-not-is_before w ↦ rw w.least-is
          (lesser_one (λ y. y.now) slots star bound i x c.loop-i.least w.in-Some.cell.now c.loop-i-test.true refl
          w.in-Some.ensures (sym w.if-is_behind.ensures)
          (test_false (λ y. y.now) c.loop-i.least w.in-Some.cell.now w.is_before.result w.if-not-is_before.true
          w.is_before.ensures) c.loop-i.invariant)
      | in-Some+else-is_behind w ↦ rw w.least-is (elim w.else-is_behind.branch [
        | else-is_behind-via-then-is_behind+else-not-is_before v ↦ not_less_one (λ y. y.now) slots star bound i x
            c.loop-i.least w.in-Some.cell.now v.is_before.result c.loop-i-test.true refl w.in-Some.ensures
            v.if-not-is_before.false v.is_before.ensures c.loop-i.invariant
        | else-is_behind-via-else-is_behind v ↦ passed_one (λ y. y.now) slots star bound i x c.loop-i.least
            c.loop-i-test.true refl (not_behind slots x bound w.in-Some.cell.now w.in-Some.ensures
            (sym w.is_behind.ensures ∙ v.if-is_behind.false)) c.loop-i.invariant
      ])
      | in_default w ↦ rw w.least-is (passed_one (λ y. y.now) slots star bound i x c.loop-i.least c.loop-i-test.true
          refl (free_place slots x bound w.in_default.ensures) c.loop-i.invariant)
    ]

pub returns : goal.returns
returns c =
    subst (λ (l : List ℕ). Found (λ y. y.now) c.args.slots.now l c.args.bound.now c.loop-i.least)
    (all_taken c.args.star.now c.loop-i.i-index (λ k. omega (arith, k, c.loop-i-test.false))) c.loop-i.invariant
