use Rattle.std.proofs.Common.{rules, arith, length}
use Rattle.std.proofs.lemmas.List.{length-map}
use Rattle.std.proofs.lemmas.Result.{IfOk-at_ok}
use Rattle.edit_lists.specs.declared.lists.List as lists
use Rattle.edit_lists.specs.Dealing.{pairs_in}
use Rattle.edit_workers.specs.Running.{AreWorked}
use Rattle.edit_workers.proofs.Halves.{of_answer}
use Rattle.edit_workers.proofs.running.+fn-work_all-join+arg2+fn-work_all-join+arg3+work_all.Goals as goal

-- there are several lists
pub halves-requires-clause-several : goal.halves-requires-clause-several
halves-requires-clause-several g t c =
    let some = c.requires.run.some in
    let more = c.if-lists-eq1.false in
    omega (arith, some, more, length-map c.args.lists.now (λ (l : lists.List). l.pairs.items))

-- each half of the pass can run its half of the lists
pub join-a-requires-after_bounds : goal.join-a-requires-after_bounds
join-a-requires-after_bounds g t c κs =
    let halves = c.in_ok-other.ensures in
    λ ls. (search rules, search rules)

-- what both halves did and left over is the work of the whole pass
pub returns : goal.returns
returns g t c =
    let halves = c.in_ok-other.ensures.halves in
    let first = IfOk-at_ok (λ r. AreWorked (pairs_in c.in_ok-other.low.now) r.1.pairs.items c.halves.new.pass
    r.0) c.in_ok-a.was c.join-a.ensures.first in
    let second = IfOk-at_ok (λ r. AreWorked (pairs_in c.in_ok-other.high.now) r.1.pairs.items
    c.in_ok-other.other r.0) c.in_ok-b.was c.join-a.ensures.second in
    let both = halves.both c.in_ok-a.field-0.1.pairs.items c.in_ok-b.field-0.1.pairs.items c.in_ok-a.field-0.0
    c.in_ok-b.field-0.0 first second in
    of_answer (λ p l. AreWorked (pairs_in c.args.lists.now) l c.args.pass p) c.together.result _ _ both.worked
    c.together.ensures.pass c.together.ensures.left

-- the halves are passes of the table, and the second's parts come next
pub together-requires : goal.together-requires
together-requires g t c =
    let halves = c.in_ok-other.ensures.halves in
    let first = IfOk-at_ok (λ r. AreWorked (pairs_in c.in_ok-other.low.now) r.1.pairs.items c.halves.new.pass
    r.0) c.in_ok-a.was c.join-a.ensures.first in
    let second = IfOk-at_ok (λ r. AreWorked (pairs_in c.in_ok-other.high.now) r.1.pairs.items
    c.in_ok-other.other r.0) c.in_ok-b.was c.join-a.ensures.second in
    let both = halves.both c.in_ok-a.field-0.1.pairs.items c.in_ok-b.field-0.1.pairs.items c.in_ok-a.field-0.0
    c.in_ok-b.field-0.0 first second in
    record { low = both.low; high = both.high; next = both.next }
