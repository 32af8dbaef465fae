-- The points with which the mesh of a list of points begins.
use Rattle.std.specs.Prelude.{ℕ, List, map, slice_index}
use Rattle.edit_history.specs.Opening.{FourPlaces}
use Rattle.edit_history.specs.OneThread.{places}

-- the points at four places, each with its place for a tag
abbrev pub tagged_at : List ℕ → FourPlaces → List (ℕ × ℕ)
tagged_at points four = map (λ i. (i, slice_index points i)) (places four)
