use Rattle.std.proofs.Common.{◌<◌, ◌≤◌, get_or, sym, subst, length, take, arith, ℕ}
use Rattle.std.specs.Prelude.{Option}
use Rattle.solid_parts.proofs.Joining.{JoinSoFar, all_joined, first_below, here, next_below, none_joined, over}
use Rattle.solid_parts.proofs.Joining.{with_first}
use Rattle.solid_parts.proofs.groups.join_all.Goals.{then-is_marked+in-Some, then-is_marked+in-None, else-is_marked}
use Rattle.solid_parts.proofs.groups.join_all.Goals as goal

pub loop-number-init : goal.loop-number-init
loop-number-init c = none_joined c.args.marks.now c.args.leads.now c.requires.down

pub merge-apart-requires-clause-i : goal.merge-apart-requires-clause-i
merge-apart-requires-clause-i c =
    first_below c.args.marks.now c.args.numbers.now c.args.leads.now c.loop-number.leads c.loop-number.number-index _ _
    c.requires.numbers
    c.in-Some.is c.loop-number.invariant

pub merge-apart-requires-clause-j : goal.merge-apart-requires-clause-j
merge-apart-requires-clause-j c =
    subst (λ n. get_or c.args.numbers.now c.loop-number.number-index 0 < n) (sym c.loop-number.invariant.count)
    (next_below c.args.marks.now c.args.numbers.now c.args.leads.now c.loop-number.leads c.loop-number.number-index
    c.requires.numbers
    c.loop-number-test.true)

pub merge-apart-requires-clause-down : goal.merge-apart-requires-clause-down
merge-apart-requires-clause-down c = c.loop-number.invariant.down

-- one number more: it is not marked, it is the first that is, or it is merged with that
pub loop-number-preserved : goal.loop-number-preserved
loop-number-preserved c =
    let marks = c.args.marks.now in
    let numbers = c.args.numbers.now in
    let old = c.args.leads.now in
    let now = c.loop-number.leads in
    let i = c.loop-number.number-index in
    let within = c.loop-number-test.true in
    let done = c.loop-number.invariant in
    elim c.if-is_marked.branch [
      | then-is_marked+in-Some w ↦
          with_first marks numbers old now i c.requires.numbers within w.in-Some.other _ _ w.merge-apart.new.leads _
          w.first-is w.leads-is
          _ c.is_marked.ensures w.if-is_marked.true w.merge-apart.auto.leads w.merge-apart.ensures.down
          w.merge-apart.ensures.merged
          (subst (λ (f : Option ℕ). JoinSoFar marks (take i numbers) old now f) w.in-Some.is done)
      | then-is_marked+in-None w ↦
          here marks numbers old now i c.requires.numbers within _ _ w.first-is w.leads-is _ c.is_marked.ensures
          w.if-is_marked.true
          (subst (λ (f : Option ℕ). JoinSoFar marks (take i numbers) old now f) w.in-None.is done)
      | else-is_marked w ↦
          over marks numbers old now i c.requires.numbers within c.loop-number.first _ _ w.first-is w.leads-is _
          c.is_marked.ensures
          w.if-is_marked.false done
    ]

pub returns-clause-down : goal.returns-clause-down
returns-clause-down c = c.loop-number.invariant.down

pub returns-clause-joined : goal.returns-clause-joined
returns-clause-joined c =
    let past : length c.args.numbers.now ≤ c.loop-number.number-index = omega (arith, c.loop-number-test.false) in
    all_joined c.args.marks.now c.args.numbers.now c.args.leads.now c.loop-number.leads c.loop-number.number-index
    c.loop-number.first past
    c.loop-number.invariant
