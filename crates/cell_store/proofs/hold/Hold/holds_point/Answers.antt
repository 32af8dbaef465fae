use Rattle.std.proofs.Common.{◌≡◌, ◌∙◌, rules}
use Rattle.point_order.specs.Sets.{is_among}
use Rattle.bucket_grid.specs.Grids.{bucket_of}
use Rattle.cell_store.specs.Buckets.{points_at}
use Rattle.cell_store.proofs.HandLaws.{held_point}
use Rattle.cell_store.proofs.hold.Hold.holds_point.Goals as goal

pub returns-clause-in_set : goal.returns-clause-in_set
returns-clause-in_set c s sh =
    let hold = c.args.self.now in
    let there : c.has_point.result ≡ is_among c.args.p (points_at hold.places (bucket_of hold.grid c.args.p)) =
    search rules in
    there ∙ held_point hold s c.args.p sh c.requires
