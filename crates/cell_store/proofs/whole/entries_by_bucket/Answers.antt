use Rattle.std.proofs.Common.{refl, ◌∙◌, ap}
use Rattle.edit_history.specs.Edits.{point_of}
use Rattle.edit_history.specs.declared.history.Entry.{Entry}
use Rattle.bucket_grid.specs.Grids.{bucket_of}
use Rattle.cell_store.specs.Wholes.{is_noted_at}
use Rattle.cell_store.proofs.WholeLaws.{lists_in, parted_all, parted_more, parted_none}
use Rattle.cell_store.proofs.whole.entries_by_bucket.Goals as goal

pub loop-entry-init : goal.loop-entry-init
loop-entry-init c =
    parted_none c.args.grid (is_noted_at c.args.grid) c.args.entries.now (lists_in c.in_ok-lists.lists.items)
    c.in_ok-lists.ensures.count c.in_ok-lists.ensures.empty

pub loop-entry-preserved : goal.loop-entry-preserved
loop-entry-preserved c =
    parted_more c.args.grid (is_noted_at c.args.grid) (λ (e : Entry). bucket_of c.args.grid (point_of e.edit))
    c.args.entries.now c.loop-entry.entry-index c.bucket_of.result c.entry-item.result
    (lists_in c.loop-entry.lists.items)
    (lists_in c.push_at.new.lists.items) (λ k. refl) c.loop-entry-test.true c.entry-item.is
    (c.bucket_of.ensures.number ∙ ap (bucket_of c.args.grid) c.point.ensures) c.loop-entry.invariant
    c.in_ok-push_at.ensures

pub returns : goal.returns
returns c =
    parted_all c.args.grid (is_noted_at c.args.grid) c.args.entries.now c.loop-entry.entry-index
    (lists_in c.loop-entry.lists.items) c.loop-entry-test.false c.loop-entry.invariant
