use Rattle.std.proofs.Common.{arith, ap, length, subst, List, ◌≡◌, []}
use Rattle.edit_workers.specs.declared.rounds.Waiting.{Waiting}
use Rattle.edit_workers.specs.Rounds.{AllFresh, AreMadeOrWait}
use Rattle.edit_workers.specs.Trying.{OwnsAll}
use Rattle.edit_workers.proofs.Waits.{all_wait, allowed, both_rounds, last_round}
use Rattle.edit_workers.proofs.rounds.finish.Goals as goal

pub loop-round-init : goal.loop-round-init
loop-round-init g c = record {
  made = all_wait c.args.waiting.items c.args.pass.now;
  none = λ l. absurd (omega (arith, l));
}

pub round-requires-clause-left : goal.round-requires-clause-left
round-requires-clause-left g c =
    let m = allowed c.args.waiting.items c.loop-round.kept.items c.args.pass.now c.loop-round.pass
    c.loop-round.invariant.made c.requires.left in
    omega (arith, m, ap length c.deref.ensures.value)

pub returns-then-is_empty-clause-rounds : goal.returns-then-is_empty-clause-rounds
returns-then-is_empty-clause-rounds g c =
    let now = c.loop-round.pass in
    both_rounds c.args.waiting.items c.loop-round.kept.items c.in_ok-kept.kept.items c.args.pass.now now
    c.round.new.pass c.loop-round.invariant.made
    (subst (λ (l : List Waiting). AreMadeOrWait l c.in_ok-kept.kept.items now c.round.new.pass) c.deref.ensures.value
    c.in_ok-kept.ensures.round)

-- after one round more each pair is made or waits
pub loop-round-preserved : goal.loop-round-preserved
loop-round-preserved g c =
    let now = c.loop-round.pass in
    record {
      made = both_rounds c.args.waiting.items c.loop-round.kept.items c.in_ok-kept.kept.items c.args.pass.now now
          c.round.new.pass c.loop-round.invariant.made
          (subst (λ (l : List Waiting). AreMadeOrWait l c.in_ok-kept.kept.items now c.round.new.pass)
          c.deref.ensures.value c.in_ok-kept.ensures.round);
      none =
          λ l o f. last_round c.args.waiting.items c.loop-round.kept.items c.in_ok-kept.kept.items c.args.pass.now now
          c.loop-round.invariant.made
          (subst (λ (l : List Waiting). OwnsAll now → AllFresh l → c.in_ok-kept.kept.items ≡ []) c.deref.ensures.value
          c.in_ok-kept.ensures.alone) o f;
    }
