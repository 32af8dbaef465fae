use Rattle.std.proofs.Common.{get_or, refl}
use Rattle.cell_stars.proofs.Pairs.{zip_all_of, zip_more}
use Rattle.cell_stars.proofs.moves.pairs.Goals as goal

pub loop-k-preserved : goal.loop-k-preserved
loop-k-preserved c = zip_more c.args.numbers.now c.args.cells.now c.loop-k.k c.loop-k.list.items c.push.new.self.items
    (get_or c.args.numbers.now c.loop-k.k 0) c.index-cells-k.result c.requires c.loop-k-test.true refl
    c.index-cells-k.is c.in_ok-push.ensures.items c.loop-k.invariant

pub returns : goal.returns
returns c = zip_all_of c.args.numbers.now c.args.cells.now c.loop-k.k c.loop-k.list.items c.requires
    c.loop-k-test.false c.loop-k.invariant
