-- What a verdict on lists says of them. The set is an ascending list of keys; it need not be known to be solid.
use Rattle.std.specs.Prelude.{◌≡◌, ℕ, Bool, true, false, List, [], None, ◌↔◌, slice_index_or}
use Rattle.std.specs.List.Sorted.{IsStrictlySortedBy}
use Rattle.point_order.specs.declared.cell.Cell.{Cell}
use Rattle.point_order.specs.declared.cell.Cell.TheVariants.{Full, Open}
use Rattle.point_order.specs.CellOrder.{cell_cmp}
use Rattle.point_order.specs.Facets.{points_of}
use Rattle.point_order.specs.Sets.{IsAscending, IsIn}
use Rattle.point_order.specs.Complex.{complex}
use Rattle.point_order.specs.Solid.{is_solid}
use Rattle.del_laws.specs.Keys.{AreKeys}
use Rattle.mesh_check.specs.declared.flaw.Flaw.{Flaw}
use Rattle.mesh_check.specs.declared.flaw.Flaw.TheVariants.{Empty, FlatCell, Sides, Inside, OpenFacet}
use Rattle.mesh_check.specs.declared.flaw.Verdict.{Verdict}
use Rattle.mesh_check.specs.declared.flaw.Verdict.TheVariants.{Good, Bad}
use Rattle.cloud_cells.specs.declared.known.Compared.{Compared}
use Rattle.cloud_cells.specs.declared.known.Compared.TheVariants.{Same, Other}
use Rattle.mesh_check.specs.Flaws.{IsComplex, IsFacet, IsInTwo, IsVerdict, are_apart, as_cells, flaw_of, is_flat_cell}
use Rattle.mesh_check.specs.Flaws.{is_inside}
use Rattle.mesh_check.specs.Text.{is_good, verdict_text}

-- the cells are in order, each once, and their points ascend and are points of s
pub record AreCells (s : List ℕ) (l : List Cell) : Type 0 where
  pub sorted : IsStrictlySortedBy cell_cmp l
  pub ascending : (c : Cell) → IsIn c l → IsAscending (points_of c)
  pub inside : (c : Cell) → IsIn c l → (p : ℕ) → IsIn p (points_of c) → IsIn p s

-- the flaw is true of the points s and the listed cells
abbrev pub IsFlaw : List ℕ → List Cell → Flaw → Type 0
IsFlaw s l Empty = l ≡ []
IsFlaw s l (FlatCell c) = IsIn c l × (is_flat_cell c ≡ true)
IsFlaw s l (Sides t e f) = IsIn (Open t) l × IsIn e s × IsIn f s × (are_apart (Open t) e f ≡ true)
IsFlaw s l (Inside c p) = IsIn c l × IsIn p s × (is_inside s c p ≡ true)
IsFlaw s l (OpenFacet f) = IsFacet l f × ¬ (IsInTwo l f)

-- What is told of listed cells: whether the verdict on them is good, and its text.
pub record IsTold (s : List ℕ) (l : List Cell) (good : Bool) (text : List ℕ) : Type 0 where
  pub verdict : Verdict
  pub is_verdict : IsVerdict s l verdict
  pub good_is : good ≡ is_good verdict
  pub text_is : text ≡ verdict_text s verdict

-- the marked cells of a list are of the complex of s, which is solid where there is one
abbrev pub AreInComplex : List ℕ → (List ℕ → Cell) → List (List ℕ) → List Bool → Type 0
AreInComplex s kind l marks =
    (i : ℕ) → slice_index_or marks i false ≡ true →
    (is_solid s ≡ true) × IsIn (kind (slice_index_or l i [])) (complex s)

-- the lists are the complex, or their marked cells are of it
abbrev pub StandsBeside : List ℕ → List (List ℕ) → List (List ℕ) → Compared → Type 0
StandsBeside s cells hull Same = IsComplex s (as_cells cells hull)
StandsBeside s cells hull (Other known) =
    AreInComplex s Full cells known.cells.items × AreInComplex s Open hull known.hull.items

-- no marked cell of a list has a flaw
abbrev pub AreSound : List ℕ → (List ℕ → Cell) → List (List ℕ) → List Bool → Type 0
AreSound s kind l marks =
    (i : ℕ) → slice_index_or marks i false ≡ true → flaw_of s (kind (slice_index_or l i [])) ≡ None

-- without a flaw they are the complex, and the complex has none
abbrev pub GoodIsComplex : Type 0
GoodIsComplex =
    (s : List ℕ) (l : List Cell) → IsAscending s → AreKeys s → AreCells s l → IsVerdict s l Good ↔ IsComplex s l

-- the flaw that a verdict names is true of the lists
abbrev pub FlawIsTrue : Type 0
FlawIsTrue = (s : List ℕ) (l : List Cell) (flaw : Flaw) → IsVerdict s l (Bad flaw) → IsFlaw s l flaw

-- each flaw that is true of the lists shows that they are not the complex
abbrev pub FlawShows : Type 0
FlawShows =
    (s : List ℕ) (l : List Cell) (flaw : Flaw) → IsAscending s → AreKeys s → IsFlaw s l flaw → IsComplex s l → ⊥
