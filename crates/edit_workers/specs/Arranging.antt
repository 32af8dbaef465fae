-- The order in which a worker makes its pairs, where there are others.
use Rattle.std.specs.Prelude.{◌≡◌, ℕ, ◌+◌, ◌*◌, ◌/◌, ◌%◌, if◌then◌else◌, nat_lt, List, AllPairs, IsPermutation}
use Rattle.point_order.specs.Coordinates.{x_of, y_of, z_of}
use Rattle.edit_history.specs.Edits.{point_of}
use Rattle.plain_laws.specs.Running.{Pair}
use Rattle.edit_workers.specs.Running.{AscendAtPoint}

-- the four bits of a number, two places between each
abbrev pub spread_of : ℕ → ℕ
spread_of v = v % 2 + v / 2 % 2 * 8 + v / 4 % 2 * 64 + v / 8 % 2 * 512

-- how long an edge of a cube is, where 16 lie along an axis, and how many cubes there are
abbrev pub cube_edge : ℕ
cube_edge = 1024

abbrev pub place_count : ℕ
place_count = 4096

-- the place of a point on the Morton curve through 16 x 16 x 16 cubes: the bits of the three coordinates in turn
abbrev pub place_of : ℕ → ℕ
place_of p = spread_of (x_of p / cube_edge) * 4 + spread_of (y_of p / cube_edge) * 2 + spread_of (z_of p / cube_edge)

-- the stretch of a tag: each of the early ones is one by itself, and then so many together
abbrev pub early_count : ℕ
early_count = 8192

abbrev pub stretch_length : ℕ
stretch_length = 65536

abbrev pub stretch_of : ℕ → ℕ
stretch_of tag = if nat_lt tag early_count then tag else early_count + tag / stretch_length

-- how many tags there can be: 2^32
abbrev pub tag_count : ℕ
tag_count = 4294967296

-- the number by which pairs are arranged: their stretch of tags, then their place behind the
-- one where the worker begins, then their tag
abbrev pub key_of_place : ℕ → Pair → ℕ
key_of_place begin pair =
    (stretch_of pair.0 * place_count + (place_of (point_of pair.1) + begin) % place_count) * tag_count + pair.0

-- The pairs in another order, in which those of one point stand by their tags.
pub record IsArranged (list arranged : List Pair) : Type 0 where
  pub same : IsPermutation list arranged
  pub order : AllPairs AscendAtPoint arranged

-- That, where there are so many workers; a worker that is alone keeps the order.
pub record IsInPlace (count : ℕ) (list arranged : List Pair) : Type 0 where
  pub is_arranged : IsArranged list arranged
  pub alone : count ≡ 1 → arranged ≡ list
