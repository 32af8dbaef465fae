use Rattle.std.proofs.Common.{refl}
use Rattle.cell_stars.specs.Places.{cells_of}
use Rattle.cell_store.proofs.bucket.Bucket.new.Goals as goal

pub returns : goal.returns
unfolding cells_of
returns c = rw (c.new.ensures.items, c.new-2.ensures, c.new-3.ensures.items) refl
