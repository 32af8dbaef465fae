use Rattle.std.proofs.Common.{length, map, ℕ}
use Rattle.std.proofs.lemmas.List.{length-map}
use Rattle.cell_stars.proofs.steps.place_counted.Goals as goal
use Rattle.cell_stars.proofs.Search.{step_less, step_greater, paid_at, begun, inside_at, belongs, vertex_at, found_at}

pub loop-low-init : goal.loop-low-init
loop-low-init g c = begun (map (λ k. k.0) c.args.keys.now) (length c.args.keys.now) c.args.p c.args.steps.now
    (length-map c.args.keys.now (λ (k : ℕ × ℕ). k.0))

pub loop-low-preserved-in-Less : goal.loop-low-preserved-in-Less
loop-low-preserved-in-Less g c = step_less (map (λ k. k.0) c.args.keys.now) (length c.args.keys.now) c.args.p
    c.args.steps.now c.loop-low.low c.loop-low.high c.loop-low.steps c.compare.new.steps c.vertex_of.result c.requires
    c.loop-low-test.true (vertex_at c.args.keys.now _ c.index-keys-middle.result c.vertex_of.result
    c.index-keys-middle.is c.vertex_of.ensures) c.in-Less.ensures.order c.compare.ensures.cost c.loop-low.invariant

pub returns-in-Equal-clause-found : goal.returns-in-Equal-clause-found
returns-in-Equal-clause-found g c = (
    let h = inside_at (map (λ k. k.0) c.args.keys.now) (length c.args.keys.now) c.args.p c.args.steps.now c.loop-low.low
    c.loop-low.high c.loop-low.steps c.loop-low-test.true c.loop-low.invariant in (
      h,
      found_at c.args.keys.now _ c.index-keys-middle.result c.vertex_of.result c.args.p h c.index-keys-middle.is
          c.vertex_of.ensures c.in-Equal.ensures.order,
    ))

pub returns-in-Equal-clause-cost : goal.returns-in-Equal-clause-cost
returns-in-Equal-clause-cost g c = paid_at (map (λ k. k.0) c.args.keys.now) (length c.args.keys.now) c.args.p
    c.args.steps.now c.loop-low.low c.loop-low.high c.loop-low.steps c.compare.new.steps c.loop-low-test.true
    c.compare.ensures.cost c.loop-low.invariant

pub loop-low-preserved : goal.loop-low-preserved
loop-low-preserved g c = step_greater (map (λ k. k.0) c.args.keys.now) (length c.args.keys.now) c.args.p
    c.args.steps.now c.loop-low.low c.loop-low.high c.loop-low.steps c.compare.new.steps c.vertex_of.result c.requires
    c.loop-low-test.true (vertex_at c.args.keys.now _ c.index-keys-middle.result c.vertex_of.result
    c.index-keys-middle.is c.vertex_of.ensures) c.in-Greater.ensures.order c.compare.ensures.cost c.loop-low.invariant

pub returns-clause-found : goal.returns-clause-found
returns-clause-found g c = belongs (map (λ k. k.0) c.args.keys.now) (length c.args.keys.now) c.args.p c.args.steps.now
    c.loop-low.low c.loop-low.high c.loop-low.steps c.loop-low-test.false c.loop-low.invariant
