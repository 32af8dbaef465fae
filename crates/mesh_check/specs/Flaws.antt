-- Which flaw of lists that are to be the complex of a set of points is the first, and when they are that complex.
-- The two lists are one list of cells: the Full cells, and the triples as Open cells.
use Rattle.std.specs.Prelude.{◌≡◌, ℕ, Bool, true, false, not, ◌||◌, List, [], ◌∷◌, ◌⊎◌, Option, None, Some}
use Rattle.std.specs.Prelude.{if◌then◌else◌, map, ◌++◌}
use Rattle.std.specs.List.{find, list_any}
use Rattle.std.specs.declared.cmp.Ordering.{Ordering}
use Rattle.std.specs.declared.cmp.Ordering.TheVariants.{Less, Greater}
use Rattle.std.specs.Cmp.Lexicographic.{slice_cmp}
use Rattle.std.specs.Ordering.{nat_cmp}
use Rattle.point_order.specs.declared.cell.Cell.{Cell}
use Rattle.point_order.specs.declared.cell.Cell.TheVariants.{Full, Open}
use Rattle.point_order.specs.declared.cell.Facet.{Facet}
use Rattle.point_order.specs.declared.cell.Facet.TheVariants.{Three, Two}
use Rattle.point_order.specs.Complex.{complex}
use Rattle.point_order.specs.Orientation.{is_flat, is_collinear}
use Rattle.point_order.specs.Conflicts.{are_opposite}
use Rattle.point_order.specs.Spheres.{is_outside}
use Rattle.point_order.specs.Sets.{IsIn, is_among}
use Rattle.point_order.specs.Solid.{is_solid}
use Rattle.point_order.specs.Facets.{facets_of}
use Rattle.mesh_check.specs.declared.flaw.Flaw.{Flaw}
use Rattle.mesh_check.specs.declared.flaw.Flaw.TheVariants.{Empty, FlatCell, Sides, Inside, OpenFacet}
use Rattle.mesh_check.specs.declared.flaw.Verdict.{Verdict}
use Rattle.mesh_check.specs.declared.flaw.Verdict.TheVariants.{Good, Bad}

-- ---- cells

-- the points of a cell are not independent: four are in one plane, or three on one line
abbrev pub is_flat_cell : Cell → Bool
is_flat_cell (Full (a ∷ b ∷ c ∷ d ∷ [])) = is_flat a b c d
is_flat_cell (Open (a ∷ b ∷ c ∷ [])) = is_collinear a b c
is_flat_cell _ = true

-- two points lie strictly on opposite sides of the triple of an Open cell
abbrev pub are_apart : Cell → ℕ → ℕ → Bool
are_apart (Open (a ∷ b ∷ c ∷ [])) e f = are_opposite a b c e f
are_apart _ e f = false

-- p, none of the three, is in their plane and not outside their perturbed sphere with a point off it
abbrev pub is_inside_with : ℕ → ℕ → ℕ → ℕ → Option ℕ → Bool
is_inside_with a b c p None = false
is_inside_with a b c p (Some f) =
    not (is_among p (a ∷ b ∷ c ∷ []) || not (is_flat a b c p) || is_outside a b c f p)

-- p, none of the cell's points, is not outside it: not outside the perturbed sphere of a Full cell; in the plane of an
-- Open cell, and not outside the sphere of its triple with the least point of s off this plane, if there is one
abbrev pub is_inside : List ℕ → Cell → ℕ → Bool
is_inside s (Full (a ∷ b ∷ c ∷ d ∷ [])) p = not (is_among p (a ∷ b ∷ c ∷ d ∷ []) || is_outside a b c d p)
is_inside s (Open (a ∷ b ∷ c ∷ [])) p = is_inside_with a b c p (find (λ f. not (is_flat a b c f)) s)
is_inside s _ p = false

-- ---- facets

-- the facet is one of a listed cell
pub record IsFacet (l : List Cell) (f : Facet) : Type 0 where
  pub cell : Cell
  pub listed : IsIn cell l
  pub has : IsIn f (facets_of cell)

-- the facet is one of exactly two listed cells
pub record IsInTwo (l : List Cell) (f : Facet) : Type 0 where
  pub first : Cell
  pub second : Cell
  pub differ : ¬ (first ≡ second)
  pub first_listed : IsIn first l
  pub second_listed : IsIn second l
  pub first_has : IsIn f (facets_of first)
  pub second_has : IsIn f (facets_of second)
  pub only : (c : Cell) → IsIn c l → IsIn f (facets_of c) → (c ≡ first) ⊎ (c ≡ second)

-- triples come before pairs, and each kind is in lexicographic order
abbrev pub facet_cmp : Facet → Facet → Ordering
facet_cmp (Three t) (Three u) = slice_cmp nat_cmp t u
facet_cmp (Three t) (Two p) = Less
facet_cmp (Two p) (Three t) = Greater
facet_cmp (Two p) (Two q) = slice_cmp nat_cmp p q

-- ---- the first flaw

-- the first flaw, if there is one, else the second
abbrev pub first_flaw_of : Option Flaw → Option Flaw → Option Flaw
first_flaw_of None r = r
first_flaw_of (Some flaw) r = Some flaw

-- points on opposite sides of a triple, e being found, with the least that lies opposite e
abbrev pub sides_with : List ℕ → Cell → Option ℕ → Option ℕ → Option Flaw
sides_with s (Open t) (Some e) (Some f) = Some (Sides t e f)
sides_with s _ _ _ = None

-- the least point opposite e
abbrev pub opposite : List ℕ → Cell → Option ℕ → Option ℕ
opposite s c None = None
opposite s c (Some e) = find (λ f. are_apart c e f) s

-- the least point with another on the opposite side of the triple, and the least such other
abbrev pub sides_from : List ℕ → Cell → Option ℕ → Option Flaw
sides_from s c e = sides_with s c e (opposite s c e)

abbrev pub sides_of : List ℕ → Cell → Option Flaw
sides_of s c = sides_from s c (find (λ e. list_any (λ f. are_apart c e f) s) s)

-- the least point not outside the cell
abbrev pub inside_with : Cell → Option ℕ → Option Flaw
inside_with c None = None
inside_with c (Some p) = Some (Inside c p)

abbrev pub inside_of : List ℕ → Cell → Option Flaw
inside_of s c = inside_with c (find (is_inside s c) s)

-- the first flaw of a cell
abbrev pub flaw_of : List ℕ → Cell → Option Flaw
flaw_of s c = if is_flat_cell c then Some (FlatCell c) else first_flaw_of (sides_of s c) (inside_of s c)

-- the first flaw of the cells, in their order
unfoldable pub first_flaw : List ℕ → List Cell → Option Flaw
first_flaw s [] = None
first_flaw s (c ∷ l) = first_flaw_of (flaw_of s c) (first_flaw s l)

-- the least facet that is not one of exactly two cells
pub record IsLeastOpen (l : List Cell) (f : Facet) : Type 0 where
  pub is : IsFacet l f
  pub open_facet : ¬ (IsInTwo l f)
  pub least : (g : Facet) → IsFacet l g → facet_cmp g f ≡ Less → IsInTwo l g

-- What the check comes to: no flaw, or the first in this order: no cell; a flaw of a cell, cell by cell; a facet
-- that is not one of exactly two cells.
abbrev pub IsVerdict : List ℕ → List Cell → Verdict → Type 0
IsVerdict s l Good = ¬ (l ≡ []) × (first_flaw s l ≡ None) × ((f : Facet) → IsFacet l f → IsInTwo l f)
IsVerdict s l (Bad Empty) = l ≡ []
IsVerdict s l (Bad (OpenFacet f)) = (first_flaw s l ≡ None) × IsLeastOpen l f
IsVerdict s l (Bad flaw) = first_flaw s l ≡ Some flaw

-- ---- lists

-- the Full cells and then the triples as one list of cells
abbrev pub as_cells : List (List ℕ) → List (List ℕ) → List Cell
as_cells cells hull = map Full cells ++ map Open hull

-- the set is solid, and the cells are its complex
abbrev pub IsComplex : List ℕ → List Cell → Type 0
IsComplex s l = (is_solid s ≡ true) × (l ≡ complex s)
