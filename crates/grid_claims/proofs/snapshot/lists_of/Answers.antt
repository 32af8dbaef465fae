use Rattle.edit_history.specs.Histories.{replay}
use Rattle.cell_store.proofs.Cited.{stands_shows}
use Rattle.grid_claims.proofs.snapshot.lists_of.Goals as goal

pub returns : goal.returns
returns c h st = (c.in_ok-history.ensures h st, c.in_ok-complex.ensures (replay h) (stands_shows c.args.hold.now h st))
