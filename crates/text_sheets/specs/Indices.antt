-- Points of an ascending list, told by their indices.
use Rattle.std.specs.Prelude.{◌≡◌, ◌≤◌, ◌<◌, ◌-◌, ◌⊎◌, ℕ, List, length, map, nat_lt, slice_index_or}
use Rattle.std.specs.List.{prefix_len}
use Rattle.text_sheets.specs.Lines.{numbers_line}

-- the index of a point of an ascending list: how many points, from the front on, stand before it
abbrev pub index_of : List ℕ → ℕ → ℕ
index_of points p = prefix_len (λ q. nat_lt q p) points

-- a cell's points as indices
abbrev pub indices_line : List ℕ → List ℕ → List ℕ
indices_line points corners = numbers_line (map (index_of points) corners)

-- of two places in a list the point before the one is below p, and that at the other is not
pub record IsBetween (points : List ℕ) (p low high : ℕ) : Type 0 where
  pub order : low ≤ high
  pub inside : high ≤ length points
  pub below : (low ≡ 0) ⊎ (slice_index_or points (low - 1) 0 < p)
  pub above : (high ≡ length points) ⊎ (p ≤ slice_index_or points high 0)
