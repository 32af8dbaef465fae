-- Wrapping the hole of a point that is taken: the cells that the point takes away from the complex of the points near
-- it, found from the facets of the cells at it.
use Rattle.std.specs.Prelude.{◌≡◌, ℕ, ◌<◌, true, pos, ◌<ℤ◌, List, [], ◌∷◌, ◌⊎◌, Option, None, Some, if◌then◌else◌}
use Rattle.std.specs.Prelude.{length, slice_index_or}
use Rattle.point_order.specs.declared.cell.Cell.{Cell}
use Rattle.point_order.specs.declared.cell.Cell.TheVariants.{Full}
use Rattle.point_order.specs.declared.cell.Facet.{Facet}
use Rattle.point_order.specs.declared.cell.Facet.TheVariants.{Three}
use Rattle.point_order.specs.Complex.{complex}
use Rattle.point_order.specs.Facets.{facets_of, points_of}
use Rattle.point_order.specs.Orientation.{orientation}
use Rattle.point_order.specs.Sets.{IsIn, ascending}
use Rattle.point_order.specs.Spheres.{is_outside}
use Rattle.del_laws.specs.Vertices.{is_full_cell}
use Rattle.hole_laws.specs.Edits.{IsSet, IsSolidSet, IsNew, IsLinkSet, IsRimOf}
use Rattle.gift_wrap.specs.Near.{IsStar}
use Rattle.gift_wrap.specs.declared.wrap.Side.{Side}

-- ---- the fourth point over a triple

-- of the one that leads and the next, the one that leads then
abbrev pub leader_of : ℕ → ℕ → ℕ → Option ℕ → ℕ → ℕ
leader_of a b c None e = e
leader_of a b c (Some d) e = if is_outside a b c d e then d else e

-- d is one of the points that were met, above the plane of a, b, c; and where one of these makes a cell of t with
-- the three and is above their plane, that is d
pub record IsApex (t met : List ℕ) (a b c d : ℕ) : Type 0 where
  pub inside : IsIn d met
  pub above : pos 0 <ℤ orientation a b c d
  pub only : (y : ℕ) → IsIn y met → pos 0 <ℤ orientation a b c y → is_full_cell t a b c y ≡ true → y ≡ d

-- where none leads, none of those that were met is above the plane
abbrev pub LeadsAbove : List ℕ → List ℕ → ℕ → ℕ → ℕ → Option ℕ → Type 0
LeadsAbove t met a b c None = (e : ℕ) → IsIn e met → ¬ (pos 0 <ℤ orientation a b c e)
LeadsAbove t met a b c (Some d) = IsApex t met a b c d

-- ---- facets

-- the point v is new for the solid set t
pub record CanWrap (t : List ℕ) (v : ℕ) : Type 0 where
  pub solid : IsSolidSet t
  pub new : IsNew t v

-- the star is that of v in some set, and t has its points
pub record IsHole (t : List ℕ) (v : ℕ) (star : List Cell) : Type 0 where
  pub set : List ℕ
  pub is_set : IsSet set
  pub has_v : IsIn v set
  pub link : IsLinkSet set v t
  pub star_is : IsStar set v star

-- the facet is a triple of the cell, without v
pub record IsOuter (cell : Cell) (v : ℕ) (f : Facet) : Type 0 where
  pub triple : List ℕ
  pub is : f ≡ Three triple
  pub of_cell : IsIn f (facets_of cell)
  pub apart : ¬ (IsIn v triple)

-- a facet of a cell that is listed
pub record IsFacetIn (cells : List Cell) (f : Facet) : Type 0 where
  pub cell : Cell
  pub listed : IsIn cell cells
  pub has : IsIn f (facets_of cell)

-- each side is that of a facet of some cell against v
abbrev pub AreSidesOf : List Cell → ℕ → List Side → Type 0
AreSidesOf star v sides = (s : Side) → IsIn s sides → (c : Cell) × IsIn c star × IsOuter c v s.facet

-- one of the sides is that of the facet
pub record IsOpen (f : Facet) (sides : List Side) : Type 0 where
  pub side : Side
  pub among : IsIn side sides
  pub is : side.facet ≡ f

-- some facets were met: each was there before or is there now, and no other facet came or went
pub record AreMet (facets : List Facet) (old new : List Side) : Type 0 where
  pub each : (f : Facet) → IsIn f facets → IsOpen f old ⊎ IsOpen f new
  pub came : (s : Side) → IsIn s new → IsIn s old ⊎ IsIn s.facet facets
  pub went : (s : Side) → IsIn s old → IsIn s new ⊎ IsIn s.facet facets

-- the side at a place is that of the facet
pub record IsPlaceOf (sides : List Side) (f : Facet) (i : ℕ) : Type 0 where
  pub below : i < length sides
  pub at : (d : Side) → (slice_index_or sides i d).facet ≡ f

-- the facet is the triple of the three, which ascend, but that the last two may have changed places
pub record IsFacetOn (f : Facet) (a b c : ℕ) : Type 0 where
  pub low : ℕ
  pub high : ℕ
  pub is : f ≡ Three (a ∷ low ∷ high ∷ [])
  pub first : a < low
  pub second : low < high
  pub one_of : ((b ≡ low) × (c ≡ high)) ⊎ ((b ≡ high) × (c ≡ low))

-- ---- the laws

-- Where a point leads of all points of a set above a facet of its complex, the facet and the point are a cell of it.
abbrev pub LeaderIsApex : Type 0
LeaderIsApex =
    (t : List ℕ) (f : Facet) (a b c d : ℕ) → IsSet t → IsFacetOn f a b c → IsFacetIn (complex t) f →
    IsApex t t a b c d →
    IsIn (Full (ascending (a ∷ b ∷ c ∷ d ∷ []))) (complex t)

-- The triples against v of the cells at v in a set are rim facets of the points near v, and v.
abbrev pub OuterIsRim : Type 0
OuterIsRim =
    (s : List ℕ) (v : ℕ) (t : List ℕ) (c : Cell) (f : Facet) → IsSet s → IsIn v s → IsLinkSet s v t →
    IsIn c (complex s) → IsIn v (points_of c) → IsOuter c v f → IsRimOf t v f
