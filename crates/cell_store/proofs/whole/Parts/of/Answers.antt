use Rattle.cell_store.proofs.WholeLaws.{parts_are}
use Rattle.cell_store.proofs.whole.Parts.of.Goals as goal

pub returns : goal.returns
returns c =
    parts_are c.args.grid c.args.entries.now c.args.points.now c.args.cells.now
    (record {
      points = c.in_ok-points_by_bucket.field-0;
      entries = c.in_ok-entries_by_bucket.field-0;
      cells = c.in_ok-places_by_bucket.field-0;
    })
    c.requires.points c.requires.cells c.in_ok-points_by_bucket.ensures c.in_ok-entries_by_bucket.ensures
    c.in_ok-places_by_bucket.ensures
