use Rattle.std.proofs.Common.{refl, subst, List}
use Rattle.point_order.specs.declared.cell.Cell.{Cell}
use Rattle.point_order.specs.Sets.{IsIn}
use Rattle.cell_stars.specs.Stars.{cells_around}
use Rattle.cell_store.specs.Buckets.{content_of}
use Rattle.cell_store.proofs.ShareLaws.{star_is, around_in}
use Rattle.cell_store.proofs.StarLaws.{lies_at}
use Rattle.cell_store.proofs.hold.Hold.cells_around.Goals as goal

pub cells_around-requires : goal.cells_around-requires
cells_around-requires c = lies_at c.bucket.result.now.cells.place c.args.self.now.grid c.grid.result
    c.bucket_of-b.result c.args.p c.bucket.ensures.place c.grid.ensures.grid c.bucket_of-b.ensures.number

pub returns-clause-in_complex : goal.returns-clause-in_complex
returns-clause-in_complex c s sh d =
    subst (λ (l : List Cell). (IsIn d (cells_around c.cells_around.result) → IsIn d l)
    × (IsIn d l → IsIn d (cells_around c.cells_around.result)))
    (star_is c.args.self.now s c.args.p c.grid.result c.bucket_of-b.result (content_of c.bucket.result.now)
    (content_of c.bucket.result.now).cells sh c.grid.ensures.grid c.bucket_of-b.ensures.number c.bucket.ensures.bucket
    refl)
    (c.cells_around.ensures d)

pub returns-clause-in_bucket : goal.returns-clause-in_bucket
returns-clause-in_bucket c d =
    subst (λ (l : List Cell). (IsIn d (cells_around c.cells_around.result) → IsIn d l)
    × (IsIn d l → IsIn d (cells_around c.cells_around.result)))
    (around_in c.args.self.now c.args.p c.grid.result c.bucket_of-b.result (content_of c.bucket.result.now)
    c.grid.ensures.grid c.bucket_of-b.ensures.number c.bucket.ensures.bucket)
    (c.cells_around.ensures d)
