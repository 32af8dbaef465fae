use Rattle.std.proofs.Common.{sym, subst}
use Rattle.std.specs.Prelude.{IsPermutation}
use Rattle.cell_store.specs.Buckets.{content_of}
use Rattle.cell_store.specs.Gathered.{is_home}
use Rattle.cell_store.specs.Stars.{cells_to_come}
use Rattle.cell_store.proofs.Gathering.{come_all, come_step}
use Rattle.cell_store.proofs.gather.push_cells.Goals as goal

pub loop-cell-preserved : goal.loop-cell-preserved
loop-cell-preserved c =
    come_step (is_home c.args.grid c.args.b) c.in-Some.cell.now c.loop-cell.list.items c.push_cell.new.list.items
    (cells_to_come c.loop-cell.cell-iterator) (cells_to_come c.next.new.self) _
    c.in-Some.ensures.steps c.in_ok-push_cell.ensures c.loop-cell.invariant

pub returns : goal.returns
returns c =
    let cells = (content_of c.args.bucket.now).cells in
    let first = c.into_iter-cell-iterator.result in
    come_all c.args.grid c.args.b cells (cells_to_come first) c.args.list.now.items c.loop-cell.list.items
    (cells_to_come c.loop-cell.cell-iterator)
    (subst (λ i. IsPermutation cells (cells_to_come i)) (sym c.into_iter-cell-iterator.ensures.into_iter_gives)
    c.cells-cell-items.ensures) c.in-None.ensures.steps.0 c.loop-cell.invariant
