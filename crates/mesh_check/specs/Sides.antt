-- The facets of cells, each with its cell, in order, part by part.
use Rattle.std.specs.Prelude.{◌≡◌, ℕ, Bool, true, false, not, ◌&&◌, nat_lt, List, [], ◌∷◌, Option, None, Some, ◌↔◌}
use Rattle.std.specs.Prelude.{if◌then◌else◌}
use Rattle.std.specs.Ordering.{ordering_then}
use Rattle.std.specs.declared.cmp.Ordering.{Ordering}
use Rattle.std.specs.declared.cmp.Ordering.TheVariants.{Less}
use Rattle.point_order.specs.declared.cell.Cell.{Cell}
use Rattle.point_order.specs.declared.cell.Facet.{Facet}
use Rattle.point_order.specs.declared.cell.Facet.TheVariants.{Three, Two}
use Rattle.point_order.specs.CellOrder.{cell_cmp}
use Rattle.point_order.specs.Facets.{facets_of}
use Rattle.point_order.specs.Sets.{IsIn}
use Rattle.std.specs.List.{flat_map}
use Rattle.mesh_check.specs.declared.gaps.Part.{Part}
use Rattle.mesh_check.specs.declared.gaps.Part.TheVariants.{Between, From, Pairs}
use Rattle.mesh_check.specs.declared.gaps.Side.{Side}
use Rattle.mesh_check.specs.Flaws.{IsFacet, IsInTwo, IsLeastOpen, facet_cmp}

-- by their facets, and those of one facet by their cells
abbrev pub side_cmp : Side → Side → Ordering
side_cmp x y = ordering_then (facet_cmp x.facet y.facet) (cell_cmp x.cell y.cell)

-- the first point of a facet's three, which is the least
abbrev pub front : List ℕ → ℕ
front [] = 0
front (p ∷ t) = p

-- the facet is one of the part
abbrev pub is_in : Part → Facet → Bool
is_in (Between low high) (Three t) = not (nat_lt (front t) low) && nat_lt (front t) high
is_in (From low) (Three t) = not (nat_lt (front t) low)
is_in Pairs (Three t) = false
is_in (Between low high) (Two p) = false
is_in (From low) (Two p) = false
is_in Pairs (Two p) = true

-- the side of a facet and a cell, where the facet is one of the part
abbrev pub side_of : Part → Facet → Cell → List Side
side_of part f c = if is_in part f then record { facet = f; cell = c } ∷ [] else []

-- the sides of a cell, those of the part
abbrev pub sides_in : Part → Cell → List Side
sides_in part c = flat_map (λ f. side_of part f c) (facets_of c)

-- the list has exactly the sides of the cells, those of the part
abbrev pub AreSidesIn : Part → List Cell → List Side → Type 0
AreSidesIn part l sides =
    (x : Side) → IsIn x sides ↔ (IsIn x.cell l × IsIn x.facet (facets_of x.cell) × (is_in part x.facet ≡ true))

-- the least facet of the part that is not one of exactly two listed cells
pub record IsLeastOpenIn (part : Part) (l : List Cell) (f : Facet) : Type 0 where
  pub is : IsFacet l f
  pub within : is_in part f ≡ true
  pub open_facet : ¬ (IsInTwo l f)
  pub least : (g : Facet) → IsFacet l g → is_in part g ≡ true → facet_cmp g f ≡ Less → IsInTwo l g

-- none, where each facet of the part is one of two cells; or the least that is not
abbrev pub OpenIn : Part → List Cell → Option Facet → Type 0
OpenIn part l None = (f : Facet) → IsFacet l f → is_in part f ≡ true → IsInTwo l f
OpenIn part l (Some f) = IsLeastOpenIn part l f

-- the same of all facets
abbrev pub OpenIs : List Cell → Option Facet → Type 0
OpenIs l None = (f : Facet) → IsFacet l f → IsInTwo l f
OpenIs l (Some f) = IsLeastOpen l f

-- the next side has the facet, and the one after it has not
pub record IsPair (f : Facet) (others after : List Side) : Type 0 where
  pub second : Side
  pub is : others ≡ second ∷ after
  pub same : second.facet ≡ f
  pub apart : (z : Side) (r : List Side) → after ≡ z ∷ r → ¬ (z.facet ≡ f)

-- or there is none, or the next has another facet, or the one after it has the facet too
pub data IsUnpaired (f : Facet) (others : List Side) : Type 0 where
  alone : others ≡ [] → IsUnpaired f others
  apart : (y : Side) (r : List Side) → others ≡ y ∷ r → ¬ (y.facet ≡ f) → IsUnpaired f others
  third : (y z : Side) (r : List Side) → others ≡ y ∷ z ∷ r → y.facet ≡ f → z.facet ≡ f → IsUnpaired f others
