-- Points that are gathered from all buckets of a mesh.
use Rattle.std.specs.Prelude.{ℕ, List, [], Option}
use Rattle.std.specs.List.{flat_map}
use Rattle.std.specs.Option.{option_map_or}
use Rattle.cell_store.specs.Buckets.{BucketContent}

-- the points of all buckets in hand, those of bucket 0 first
abbrev pub all_points : List (Option BucketContent) → List ℕ
all_points places = flat_map (λ o. option_map_or (λ c. c.points) o []) places
