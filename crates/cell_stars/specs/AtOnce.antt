-- Cells of a bucket that are put in all at once: their vertices there, and the places that stars gain.
use Rattle.std.specs.Prelude.{◌≡◌, ℕ, ◌<◌, ◌⊎◌, true, List, length, map, take, Some, slice_index}
use Rattle.point_order.specs.declared.cell.Cell.{Cell}
use Rattle.point_order.specs.Facets.{points_of}
use Rattle.point_order.specs.Sets.{IsIn, IsAscending}
use Rattle.cell_stars.specs.Places.{IsStarredBy, lies_in, star_at, at_slot}

-- the point, which lies in bucket b, is this one
abbrev pub StandsHere : ℕ → ℕ → ℕ → ℕ → Type 0
StandsHere g b p q = (p ≡ q) × (lies_in (Some (g, b)) q ≡ true)

-- a vertex of the cell that lies in bucket b
abbrev pub FromCellHere : ℕ → ℕ → Cell → ℕ → Type 0
FromCellHere g b c p = IsIn p (points_of c) × (lies_in (Some (g, b)) p ≡ true)

-- the first n vertices, each with its place among all for a number
pub record AreNumberedTo (n : ℕ) (vertices : List ℕ) (keys : List (ℕ × ℕ)) : Type 0 where
  pub vertices_are : map (λ k. k.0) keys ≡ take n vertices
  pub each : (k : ℕ × ℕ) → IsIn k keys → (k.1 < length vertices) × (slice_index vertices k.1 ≡ k.0)

-- the vertices ascend, and beside each stands the number of a star that is its own
pub record AreKeyed (keys : List (ℕ × ℕ)) (stars : List (ℕ × List ℕ)) : Type 0 where
  pub order : IsAscending (map (λ k. k.0) keys)
  pub within : (k : ℕ × ℕ) → IsIn k keys → k.1 < length stars
  pub owned : (k : ℕ × ℕ) → IsIn k keys → (star_at stars k.1).0 ≡ k.0

-- each vertex of the list has a star
abbrev pub HaveKeys : (ℕ → Type 0) → List (ℕ × ℕ) → Type 0
HaveKeys P keys = (p : ℕ) → P p → (n : ℕ) × IsIn (p, n) keys

-- beside the places that the stars had, they have those that R tells of their vertices
pub record GainsPlaces (keys : List (ℕ × ℕ)) (R : ℕ → ℕ → Type 0) (old new : List (ℕ × List ℕ)) : Type 0 where
  pub keyed : AreKeyed keys new
  pub only : (p i : ℕ) → IsStarredBy keys new p i → IsStarredBy keys old p i ⊎ R p i
  pub kept : (p i : ℕ) → IsStarredBy keys old p i → IsStarredBy keys new p i
  pub came : (p i : ℕ) → R p i → IsStarredBy keys new p i

-- the cell at one of the first n places has the vertex, which lies in bucket b
abbrev pub StandsAtHere : ℕ → ℕ → List Cell → ℕ → ℕ → ℕ → Type 0
StandsAtHere g b cells n p i =
    (i < n) × ((c : Cell) × (at_slot (map (λ c. Some c) cells) i ≡ Some c) × FromCellHere g b c p)
