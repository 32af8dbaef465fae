use Rattle.std.proofs.Common.{rules, arith, length}
use Rattle.std.proofs.lemmas.List.{length-map}
use Rattle.edit_lists.specs.declared.lists.List as lists
use Rattle.edit_lists.specs.Dealing.{pairs_in}
use Rattle.edit_workers.specs.Running.{AreWorked}
use Rattle.edit_workers.proofs.Halves.{of_answer}
use Rattle.edit_workers.proofs.running.+work_in_turn.Goals as goal

-- there are several lists
pub halves-requires-clause-several : goal.halves-requires-clause-several
halves-requires-clause-several g t c =
    let some = c.requires.run.some in
    let more = c.if-lists-eq1.false in
    omega (arith, some, more, length-map c.args.lists.now (λ (l : lists.List). l.pairs.items))

-- the first half of the pass can run the first half of the lists
pub work_in_turn-requires : goal.work_in_turn-requires
work_in_turn-requires g t c κs within =
    let halves = c.in_ok-other.ensures in
    (search rules, search rules)

-- and the one that was split off the second
pub work_in_turn-requires-2 : goal.work_in_turn-requires-2
work_in_turn-requires-2 g t c κs within =
    let halves = c.in_ok-other.ensures in
    (search rules, search rules)

-- what both halves did and left over is the work of the whole pass
pub returns : goal.returns
returns g t c =
    let halves = c.in_ok-other.ensures.halves in
    let both = halves.both c.in_ok-a.a.1.pairs.items c.in_ok-b.b.1.pairs.items c.in_ok-a.a.0 c.in_ok-b.b.0
    c.in_ok-a.ensures c.in_ok-b.ensures in
    of_answer (λ p l. AreWorked (pairs_in c.args.lists.now) l c.args.pass p) c.together.result _ _ both.worked
    c.together.ensures.pass c.together.ensures.left

-- the halves are passes of the table, and the second's parts come next
pub together-requires : goal.together-requires
together-requires g t c =
    let halves = c.in_ok-other.ensures.halves in
    let both = halves.both c.in_ok-a.a.1.pairs.items c.in_ok-b.b.1.pairs.items c.in_ok-a.a.0 c.in_ok-b.b.0
    c.in_ok-a.ensures c.in_ok-b.ensures in
    record { low = both.low; high = both.high; next = both.next }
