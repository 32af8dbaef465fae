use Rattle.std.proofs.Common.{refl, ◌∙◌, arith}
use Rattle.cell_store.specs.Buckets.{content_of}
use Rattle.cell_store.proofs.ShareLaws.{star_is}
use Rattle.cell_store.proofs.StarLaws.{lies_at}
use Rattle.cell_store.proofs.KeyLaws.{keys_within}
use Rattle.cell_store.proofs.hold.Hold.star_counted.Goals as goal

pub star_counted-requires : goal.star_counted-requires
star_counted-requires g c = lies_at c.bucket.result.now.cells.place c.args.self.now.grid c.grid.result
    c.bucket_of-b.result c.args.p c.bucket.ensures.place c.grid.ensures.grid c.bucket_of-b.ensures.number

pub returns-clause-in_complex : goal.returns-clause-in_complex
returns-clause-in_complex g c s sh =
    c.star_counted.ensures.cells ∙ star_is c.args.self.now s c.args.p c.grid.result c.bucket_of-b.result
    (content_of c.bucket.result.now) (content_of c.bucket.result.now).cells sh c.grid.ensures.grid
    c.bucket_of-b.ensures.number c.bucket.ensures.bucket refl

pub returns-clause-cost : goal.returns-clause-cost
returns-clause-cost g c =
    let most = keys_within c.args.self.now c.grid.result c.bucket_of-b.result c.args.p c.bucket.result.now
    c.requires.shown c.grid.ensures.grid c.bucket_of-b.ensures.number c.bucket.ensures.bucket c.bucket.ensures.place
    c.star_counted.ensures.stars in
    omega (arith, most, c.star_counted.ensures.cost)
