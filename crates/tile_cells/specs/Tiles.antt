-- Cells of a part of a set of points that are cells of the set: what is told by a box that has no other point of it.
use Rattle.std.specs.Prelude.{◌≡◌, ℕ, ◌≤◌, ℤ, pos, ◌+ℤ◌, ◌-ℤ◌, ◌*ℤ◌, ◌<ℤ◌, true, List, [], ◌∷◌, ◌⊎◌}
use Rattle.point_order.specs.declared.cell.Cell.TheVariants.{Full}
use Rattle.point_order.specs.Coordinates.{x_of, y_of, z_of}
use Rattle.point_order.specs.Orientation.{normal_x, normal_y, normal_z}
use Rattle.point_order.specs.Sets.{IsIn, IsAscending}
use Rattle.point_order.specs.Complex.{complex}
use Rattle.small_spheres.specs.Boxes.{IsBeyond, is_inside_box}
use Rattle.del_laws.specs.Cells.{Open}
use Rattle.del_laws.specs.Keys.{AreKeys}
use Rattle.del_laws.specs.Vertices.{is_full_cell}

-- the points of t are points of s, and every other point of s lies outside the box of the corners low and high
pub record IsTile (t s : List ℕ) (low high : ℕ) : Type 0 where
  pub part : (e : ℕ) → IsIn e t → IsIn e s
  pub others : (e : ℕ) → IsIn e s → IsIn e t ⊎ IsBeyond low high e

-- a Full cell of the part whose sphere lies strictly inside the box is a Full cell of the set
abbrev pub InsideBoxIsWhole : Type 0
InsideBoxIsWhole =
    (t s : List ℕ) (low high a b c d : ℕ) → AreKeys s → IsTile t s low high → is_full_cell t a b c d ≡ true →
    is_inside_box a b c d low high ≡ true → is_full_cell s a b c d ≡ true

-- the same of the lists of the two complexes
abbrev pub ListedInsideBoxIsWhole : Type 0
ListedInsideBoxIsWhole =
    (t s : List ℕ) (low high a b c d : ℕ) → IsAscending t → IsAscending s → AreKeys s → IsTile t s low high →
    IsIn (Full (a ∷ b ∷ c ∷ d ∷ [])) (complex t) → is_inside_box a b c d low high ≡ true →
    IsIn (Full (a ∷ b ∷ c ∷ d ∷ [])) (complex s)

-- ---- Open cells

-- a box, by the points at its low and its high corner, both its own
pub record Box : Type 0 where
  pub low : ℕ
  pub high : ℕ

-- the point e lies in it
pub record LiesIn (k : Box) (e : ℕ) : Type 0 where
  pub x_low : x_of k.low ≤ x_of e
  pub x_high : x_of e ≤ x_of k.high
  pub y_low : y_of k.low ≤ y_of e
  pub y_high : y_of e ≤ y_of k.high
  pub z_low : z_of k.low ≤ z_of e
  pub z_high : z_of e ≤ z_of k.high

-- the height of the place x, y, z over the plane of a, b, c, measured along the normal: its orientation with them
unfoldable pub over_plane : ℕ → ℕ → ℕ → ℕ → ℕ → ℕ → ℤ
over_plane a b c x y z =
    normal_x a b c *ℤ (pos x -ℤ pos (x_of a)) +ℤ normal_y a b c *ℤ (pos y -ℤ pos (y_of a))
    +ℤ normal_z a b c *ℤ (pos z -ℤ pos (z_of a))

-- all eight corners of a box lie strictly above the plane
pub record IsAbove (a b c : ℕ) (k : Box) : Type 0 where
  pub low_low_low : pos 0 <ℤ over_plane a b c (x_of k.low) (y_of k.low) (z_of k.low)
  pub low_low_high : pos 0 <ℤ over_plane a b c (x_of k.low) (y_of k.low) (z_of k.high)
  pub low_high_low : pos 0 <ℤ over_plane a b c (x_of k.low) (y_of k.high) (z_of k.low)
  pub low_high_high : pos 0 <ℤ over_plane a b c (x_of k.low) (y_of k.high) (z_of k.high)
  pub high_low_low : pos 0 <ℤ over_plane a b c (x_of k.high) (y_of k.low) (z_of k.low)
  pub high_low_high : pos 0 <ℤ over_plane a b c (x_of k.high) (y_of k.low) (z_of k.high)
  pub high_high_low : pos 0 <ℤ over_plane a b c (x_of k.high) (y_of k.high) (z_of k.low)
  pub high_high_high : pos 0 <ℤ over_plane a b c (x_of k.high) (y_of k.high) (z_of k.high)

-- An Open cell of the part, its points in the order in which the part is above them, is one of the set where each
-- further point of the set lies in one of some boxes, and each box is above. For any heights.
abbrev pub AboveIsWhole : Type 0
AboveIsWhole =
    (h : ℕ → ℕ) (t s : List ℕ) (boxes : List Box) (a b c : ℕ) → ((e : ℕ) → IsIn e t → IsIn e s) →
    ((e : ℕ) → IsIn e s → IsIn e t ⊎ ((k : Box) × IsIn k boxes × LiesIn k e)) →
    ((k : Box) → IsIn k boxes → IsAbove a b c k) → Open h t a b c → Open h s a b c
