use Rattle.std.proofs.Common.{ℕ, List}
use Rattle.list_laws.proofs.Cited.{at_place, each_more, each_none, each_taken}
use Rattle.cell_stars.specs.Places.{part_of}
use Rattle.cell_stars.specs.Moves.{IsKeyed}
use Rattle.cell_stars.proofs.cells.Cells.are_keyed.Goals as goal

pub loop-n-init : goal.loop-n-init
loop-n-init c = each_none (λ (x : ℕ × (ℕ × List ℕ)). IsKeyed (part_of c.args.self.now.keys x.1.0) x.0 x.1)
    c.args.writes.now

pub is_keyed-requires : goal.is_keyed-requires
is_keyed-requires c =
    let x = c.loop-n-item.result in
    c.requires x.0 x.1 (at_place c.args.writes.now c.loop-n.n-index x x c.loop-n-test.true c.loop-n-item.is)

pub loop-n-preserved : goal.loop-n-preserved
loop-n-preserved c =
    let x = c.loop-n-item.result in
    each_more (λ (x : ℕ × (ℕ × List ℕ)). IsKeyed (part_of c.args.self.now.keys x.1.0) x.0 x.1) c.args.writes.now
    c.loop-n.n-index x x c.loop-n-test.true c.loop-n-item.is c.loop-n.invariant
    (c.is_keyed.ensures c.if-not-is_keyed.false)

pub returns : goal.returns
returns c t n s m =
    each_taken (λ (x : ℕ × (ℕ × List ℕ)). IsKeyed (part_of c.args.self.now.keys x.1.0) x.0 x.1) c.args.writes.now
    c.loop-n.n-index c.loop-n-test.false c.loop-n.invariant (n, s) m
