use Rattle.std.proofs.Common.{refl, ◌∙◌}
use Rattle.cell_store.specs.Buckets.{content_of}
use Rattle.cell_store.proofs.ShareLaws.{star_is}
use Rattle.cell_store.proofs.StarLaws.{lies_at}
use Rattle.cell_store.proofs.hold.Hold.cells_at.Goals as goal

pub cells_at-requires : goal.cells_at-requires
cells_at-requires c = lies_at c.bucket.result.now.cells.place c.args.self.now.grid c.grid.result c.bucket_of-b.result
    c.args.p c.bucket.ensures.place c.grid.ensures.grid c.bucket_of-b.ensures.number

pub returns-clause-in_complex : goal.returns-clause-in_complex
returns-clause-in_complex c s sh =
    c.cells_at.ensures ∙ star_is c.args.self.now s c.args.p c.grid.result c.bucket_of-b.result
    (content_of c.bucket.result.now) (content_of c.bucket.result.now).cells sh c.grid.ensures.grid
    c.bucket_of-b.ensures.number c.bucket.ensures.bucket refl
