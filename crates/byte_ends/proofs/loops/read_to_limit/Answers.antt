use Rattle.std.proofs.Common.{◌≡◌, ◌∙◌, ◌+◌, ap, arith, length, Ok}
use Rattle.byte_ends.proofs.Told.{TakesInto_all, TakesInto_count, TakesInto_then}
use Rattle.byte_ends.proofs.loops.read_to_limit.Goals as goal

pub returns-in_err-count-clause-taken : goal.returns-in_err-count-clause-taken
returns-in_err-count-clause-taken g c =
    TakesInto_then
    c.args.limit
    c.loop-room.invariant.0
    c.read_once.ensures.taken
    (omega (arith, c.loop-room.invariant.2))

pub returns-then-count-eq0-clause-taken : goal.returns-then-count-eq0-clause-taken
returns-then-count-eq0-clause-taken g c =
    TakesInto_then
    c.args.limit
    c.loop-room.invariant.0
    c.read_once.ensures.taken
    (omega (arith, c.loop-room.invariant.2))

pub returns-then-count-eq0-clause-limit : goal.returns-then-count-eq0-clause-limit
returns-then-count-eq0-clause-limit g c =
    (λ e. absurd (cc e), λ e. absurd (omega (arith, e, c.loop-room.invariant.1, c.in_ok-count.ensures.count)))

pub returns-then-count-eq0-clause-whole : goal.returns-then-count-eq0-clause-whole
returns-then-count-eq0-clause-whole g c reached =
    TakesInto_all
    (returns-then-count-eq0-clause-taken g c)
    (c.read_once.ensures.end (c.in_ok-count.was ∙ ap Ok c.if-count-eq0.true))

pub loop-room-preserved : goal.loop-room-preserved
loop-room-preserved g c =
    let before = c.loop-room.invariant in
    let read = c.in_ok-count.ensures in
    let count = c.in_ok-count.count in
    let grown : length c.read_once.new.bytes.items ≡ length c.loop-room.bytes.items + count =
    omega (arith, c.read_once.new.bytes.ok.0, c.loop-room.bytes.ok.0, read.count) in
    let took = TakesInto_count count c.read_once.ensures.taken grown in (
      TakesInto_then _ before.0 took (omega (arith, before.2, read.bound)),
      omega (arith, before.1, read.count, read.bound),
      omega (arith, before.2),
      omega (arith, before.3, c.read_once.ensures.later),
    )
