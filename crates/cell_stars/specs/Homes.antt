-- The buckets in which the vertices of a cell lie.
use Rattle.std.specs.Prelude.{◌≡◌, ◌<◌, ℕ, List, [], ◌++◌, length, map, take, slice_index_or}
use Rattle.point_order.specs.declared.cell.Cell.{Cell}
use Rattle.point_order.specs.declared.cell.Cell.TheVariants.{Full, Open}
use Rattle.bucket_grid.specs.Grids.{bucket_of}

-- their numbers, and where there are three that of the first one again
abbrev pub home_in : ℕ → Cell → List ℕ
home_in g (Full q) = map (bucket_of g) q
home_in g (Open t) = map (bucket_of g) (t ++ take 1 t)

-- those at the place, if there are such, are the cell's
abbrev pub AreHomesAt : ℕ → List (List ℕ) → ℕ → Cell → Type 0
AreHomesAt g homes at c = at < length homes → slice_index_or homes at [] ≡ home_in g c

-- those at each place are those of the cell there
abbrev pub AreHomes : ℕ × List (List ℕ) → List Cell → Type 0
AreHomes homes cells = homes.1 ≡ map (home_in homes.0) cells
