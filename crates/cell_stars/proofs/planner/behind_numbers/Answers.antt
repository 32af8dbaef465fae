use Rattle.std.proofs.Common.{ℕ, ◌<◌, arith}
use Rattle.list_laws.proofs.Cited.{each_more, each_none, each_taken}
use Rattle.cell_stars.proofs.planner.behind_numbers.Goals as goal

pub loop-i-init : goal.loop-i-init
loop-i-init g c = each_none (λ (x : ℕ × g.row.T.Denot). x.0 < 0) c.args.list.now

pub loop-i-preserved : goal.loop-i-preserved
loop-i-preserved g c =
    let x = c.loop-i-item.result in
    let e = c.max-end.ensures in
    each_more (λ (x : ℕ × g.row.T.Denot). x.0 < c.max-end.result) c.args.list.now c.loop-i.i-index x x
    c.loop-i-test.true c.loop-i-item.is (λ y m. (let t = c.loop-i.invariant y m in omega (arith, t, e)))
    (omega (arith, e))

pub returns : goal.returns
returns g c i d m = each_taken (λ (x : ℕ × g.row.T.Denot). x.0 < c.loop-i.end) c.args.list.now c.loop-i.i-index
    c.loop-i-test.false c.loop-i.invariant (i, d) m
