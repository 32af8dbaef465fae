use Rattle.std.proofs.Common.{refl}
use Rattle.bucket_grid.specs.Grids.{bucket_of}
use Rattle.cell_store.specs.Wholes.{lies_at}
use Rattle.cell_store.proofs.WholeLaws.{lists_in, parted_all, parted_more, parted_none}
use Rattle.cell_store.proofs.whole.points_by_bucket.Goals as goal

pub loop-p-init : goal.loop-p-init
loop-p-init c =
    parted_none c.args.grid (lies_at c.args.grid) c.args.points.now (lists_in c.in_ok-lists.lists.items)
    c.in_ok-lists.ensures.count c.in_ok-lists.ensures.empty

pub loop-p-preserved : goal.loop-p-preserved
loop-p-preserved c =
    parted_more c.args.grid (lies_at c.args.grid) (bucket_of c.args.grid) c.args.points.now c.loop-p.p-index
    c.bucket_of.result c.p-item.result (lists_in c.loop-p.lists.items) (lists_in c.push_at.new.lists.items) (λ k. refl)
    c.loop-p-test.true c.p-item.is c.bucket_of.ensures.number c.loop-p.invariant c.in_ok-push_at.ensures

pub returns : goal.returns
returns c =
    parted_all c.args.grid (lies_at c.args.grid) c.args.points.now c.loop-p.p-index (lists_in c.loop-p.lists.items)
    c.loop-p-test.false c.loop-p.invariant
