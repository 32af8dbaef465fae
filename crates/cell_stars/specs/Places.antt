-- The cells of a bucket at numbered places, and the star of each vertex: the places of its cells.
use Rattle.std.specs.Prelude.{◌≡◌, ℕ, Bool, true, false, List, [], ◌∷◌, ◌++◌, map, Option, None, Some, ◌==◌, ◌⊎◌}
use Rattle.std.specs.Prelude.{slice_index_or, length, ◌%◌}
use Rattle.std.specs.Ordering.{is_lt}
use Rattle.std.specs.declared.cmp.Ordering.TheVariants.{Less}
use Rattle.point_order.specs.declared.cell.Cell.{Cell}
use Rattle.point_order.specs.CellOrder.{cell_cmp}
use Rattle.point_order.specs.Facets.{points_of}
use Rattle.point_order.specs.Sets.{IsIn, IsAscending}
use Rattle.bucket_grid.specs.Grids.{bucket_of}
use Rattle.cell_stars.specs.Swaps.{touches, swapped, with_all_cells}

-- Where the bucket stands: the size of its grid and its number there, or none for a new one. Its places, each
-- with a cell or free. The keys in parts: the vertices with a star, each with the number of its star. The stars,
-- each with its vertex and the places of its cells.
pub record Placed : Type 0 where
  pub place : Option (ℕ × ℕ)
  pub slots : List (Option Cell)
  pub keys : List (List (ℕ × ℕ))
  pub stars : List (ℕ × List ℕ)

-- the cells at places that are not free
abbrev pub live : List (Option Cell) → List Cell
live [] = []
live (None ∷ l) = live l
live (Some c ∷ l) = c ∷ live l

-- the cell at a place
abbrev pub at_slot : List (Option Cell) → ℕ → Option Cell
at_slot slots i = slice_index_or slots i None

-- the cells of all places, in order
unfoldable pub cells_of : List (Option Cell) → List Cell
cells_of slots = with_all_cells (live slots) []

-- the cells at some places
abbrev pub named : List (Option Cell) → List ℕ → List Cell
named slots is = live (map (at_slot slots) is)

-- the point lies in the bucket that stands at the place
abbrev pub lies_in : Option (ℕ × ℕ) → ℕ → Bool
lies_in None p = false
lies_in (Some w) p = bucket_of w.0 p == w.1

-- a finite vertex of the cell does
abbrev pub touches_in : Option (ℕ × ℕ) → Cell → Bool
touches_in None c = false
touches_in (Some w) c = touches w.0 w.1 c

-- the cells of that bucket after an exchange
abbrev pub swapped_at : Option (ℕ × ℕ) → List Cell → List Cell → List Cell → List Cell
swapped_at None gone fresh l = l
swapped_at (Some w) gone fresh l = swapped w.0 w.1 gone fresh l

-- the star with a number
abbrev pub star_at : List (ℕ × List ℕ) → ℕ → ℕ × List ℕ
star_at stars n = slice_index_or stars n (0, [])

-- the part of the keys with a number
abbrev pub part_at : List (List (ℕ × ℕ)) → ℕ → List (ℕ × ℕ)
part_at keys n = slice_index_or keys n []

-- the part in which the key of a vertex stands
abbrev pub part_of : List (List (ℕ × ℕ)) → ℕ → List (ℕ × ℕ)
part_of keys p = part_at keys (p % length keys)

-- the keys of all parts
unfoldable pub all_keys : List (List (ℕ × ℕ)) → List (ℕ × ℕ)
all_keys [] = []
all_keys (l ∷ keys) = l ++ all_keys keys

-- each part ascends, and each key stands in the part of its vertex
pub record AreFiled (keys : List (List (ℕ × ℕ))) : Type 0 where
  pub order : (n : ℕ) → IsAscending (map (λ k. k.0) (part_at keys n))
  pub own : (n : ℕ) (k : ℕ × ℕ) → IsIn k (part_at keys n) → n ≡ k.0 % length keys

-- The place is in the star of the vertex, by a list of keys: in the one whose number
-- stands beside the vertex, and which is the vertex's own.
pub record IsStarredBy (keys : List (ℕ × ℕ)) (stars : List (ℕ × List ℕ)) (p i : ℕ) : Type 0 where
  pub number : ℕ
  pub key : IsIn (p, number) keys
  pub owned : (star_at stars number).0 ≡ p
  pub listed : IsIn i (star_at stars number).1

-- it is, by the keys of its part
abbrev pub IsStarred : List (List (ℕ × ℕ)) → List (ℕ × List ℕ) → ℕ → ℕ → Type 0
IsStarred keys stars p i = IsStarredBy (part_of keys p) stars p i

-- what a star has: the place of a cell with the vertex, which lies in the bucket
pub record IsPlaceAround (place : Option (ℕ × ℕ)) (slots : List (Option Cell)) (p i : ℕ) : Type 0 where
  pub cell : Cell
  pub there : at_slot slots i ≡ Some cell
  pub has : IsIn p (points_of cell)
  pub inside : lies_in place p ≡ true

-- The stars are those of the cells: each names exactly the places of the cells with its vertex, and
-- each cell stands in the star of each of its vertices in the bucket. No star is empty, no cell stands
-- at two places, and each touches the bucket.
pub record AreStars (b : Placed) : Type 0 where
  pub order : AreFiled b.keys
  pub names : (p i : ℕ) → IsStarred b.keys b.stars p i → IsPlaceAround b.place b.slots p i
  pub listed : (p i : ℕ) (c : Cell) → at_slot b.slots i ≡ Some c → IsIn p (points_of c) → lies_in b.place p ≡ true →
      IsStarred b.keys b.stars p i
  pub filled : (k : ℕ × ℕ) → IsIn k (part_of b.keys k.0) → (i : ℕ) × IsStarred b.keys b.stars k.0 i
  pub once : (i j : ℕ) (c : Cell) → at_slot b.slots i ≡ Some c → at_slot b.slots j ≡ Some c → i ≡ j
  pub touching : (i : ℕ) (c : Cell) → at_slot b.slots i ≡ Some c → touches_in b.place c ≡ true

-- the cell is after the bound, or there is none
abbrev pub is_after : Option Cell → Cell → Bool
is_after None c = true
is_after (Some b) c = is_lt (cell_cmp b c)

-- a cell at one of the places, behind the bound
pub record IsOneBehind (slots : List (Option Cell)) (star : List ℕ) (bound : Option Cell) (c : Cell) : Type 0 where
  pub place : ℕ
  pub listed : IsIn place star
  pub there : at_slot slots place ≡ Some c
  pub behind : is_after bound c ≡ true

-- there is none
abbrev pub HaveNone : List (Option Cell) → List ℕ → Option Cell → Type 0
HaveNone slots star bound = (c : Cell) → IsOneBehind slots star bound c → ⊥

-- it is the least of them: none of them comes before it
pub record IsLeastBehind (slots : List (Option Cell)) (star : List ℕ) (bound : Option Cell) (c : Cell) : Type 0 where
  pub one : IsOneBehind slots star bound c
  pub least : (d : Cell) → IsOneBehind slots star bound d → cell_cmp d c ≡ Less → ⊥

-- An exchange by places. A cell that is not gone stays at its place, each fresh cell that touches the bucket
-- gets one, and no other cell stands anywhere.
pub record IsMoved (gone fresh : List Cell) (old new : Placed) : Type 0 where
  pub place : new.place ≡ old.place
  pub stays : (i : ℕ) (c : Cell) → at_slot old.slots i ≡ Some c → (IsIn c gone → touches_in old.place c ≡ true → ⊥) →
      at_slot new.slots i ≡ Some c
  pub comes : (c : Cell) → IsIn c fresh → touches_in old.place c ≡ true → (i : ℕ) × (at_slot new.slots i ≡ Some c)
  pub only : (i : ℕ) (c : Cell) → at_slot new.slots i ≡ Some c → (IsIn c fresh × (touches_in old.place c ≡ true))
      ⊎ ((at_slot old.slots i ≡ Some c) × (IsIn c gone → touches_in old.place c ≡ true → ⊥))
