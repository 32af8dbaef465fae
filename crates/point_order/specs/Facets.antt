-- The points and the facets of a cell.
use Rattle.std.specs.Prelude.{ℕ, List, [], ◌∷◌}
use Rattle.point_order.specs.declared.cell.Cell.{Cell}
use Rattle.point_order.specs.declared.cell.Cell.TheVariants.{Full, Open}
use Rattle.point_order.specs.declared.cell.Facet.{Facet}
use Rattle.point_order.specs.declared.cell.Facet.TheVariants.{Three, Two}

-- the finite points of a cell, ascending
abbrev pub points_of : Cell → List ℕ
points_of (Full q) = q
points_of (Open t) = t

-- facet i of a Full cell lacks its point i
abbrev pub full_facets : List ℕ → List Facet
full_facets (a ∷ b ∷ c ∷ d ∷ []) =
    Three (b ∷ c ∷ d ∷ []) ∷ Three (a ∷ c ∷ d ∷ []) ∷ Three (a ∷ b ∷ d ∷ []) ∷ Three (a ∷ b ∷ c ∷ []) ∷ []
full_facets _ = []

-- facet i of an Open cell is the pair without its point i, with the infinite vertex; the last is the triple
abbrev pub open_facets : List ℕ → List Facet
open_facets (a ∷ b ∷ c ∷ []) =
    Two (b ∷ c ∷ []) ∷ Two (a ∷ c ∷ []) ∷ Two (a ∷ b ∷ []) ∷ Three (a ∷ b ∷ c ∷ []) ∷ []
open_facets _ = []

abbrev pub facets_of : Cell → List Facet
facets_of (Full q) = full_facets q
facets_of (Open t) = open_facets t

-- the finite points of a facet, ascending
abbrev pub points_on : Facet → List ℕ
points_on (Three t) = t
points_on (Two p) = p
