use Rattle.std.proofs.Common.{ap, ◌∙◌, ◌≡◌, ℕ, subst, arith}
use Rattle.list_laws.proofs.Cited.{on_err}
use Rattle.grid_claims.specs.Passes.{Standing}
use Rattle.edit_workers.specs.Trying.{HasMissed}
use Rattle.edit_workers.proofs.Worked.{tried_nothing, missed_both, broken_after, made_after}
use Rattle.edit_workers.proofs.working.try_often.Goals as goal

pub loop-tries-init : goal.loop-tries-init
loop-tries-init g c = (tried_nothing c.args.pass.now, omega arith)

pub try_once-requires-clause-table : goal.try_once-requires-clause-table
try_once-requires-clause-table g c = ap (λ (p : Standing). p.table) c.loop-tries.invariant.0.new_is ∙ c.requires.table

pub try_once-requires-clause-left : goal.try_once-requires-clause-left
try_once-requires-clause-left g c =
    let e =
    ap (λ (p : Standing). p.left) c.loop-tries.invariant.0.new_is in let l = c.requires.left in omega (arith, e, l)

pub returns-in_err-try_once-clause-broken : goal.returns-in_err-try_once-clause-broken
returns-in_err-try_once-clause-broken g c =
    on_err c.from_residual.result (broken_after c.args.pass.now c.loop-tries.pass c.try_once.new.pass
    c.loop-tries._tries c.loop-tries.invariant.1 c.loop-tries.invariant.0 c.in_err-try_once.ensures.broken)

pub returns-in-Made-clause-tried : goal.returns-in-Made-clause-tried
returns-in-Made-clause-tried g c =
    made_after c.args.tag c.args.edit c.args.pass.now c.loop-tries.pass c.try_once.new.pass c.loop-tries._tries 64
    c.loop-tries-test.true c.loop-tries.invariant.0 (rw c.in-Made.is at c.in_ok-try_once.ensures.tried)

pub loop-tries-preserved : goal.loop-tries-preserved
loop-tries-preserved g c = (
  missed_both c.args.pass.now c.loop-tries.pass c.try_once.new.pass c.loop-tries._tries 1 c.loop-tries.invariant.0
      (rw c.in-LeftOver.is at c.in_ok-try_once.ensures.tried),
  (let l = c.loop-tries-test.true in omega (arith, l)),
)

pub returns-clause-tried : goal.returns-clause-tried
returns-clause-tried g c =
    let all : c.loop-tries._tries ≡ 64 =
    (let l = c.loop-tries-test.false in let m = c.loop-tries.invariant.1 in omega (arith, l, m)) in
    subst (λ (n : ℕ). HasMissed n c.args.pass.now c.loop-tries.pass) all c.loop-tries.invariant.0
