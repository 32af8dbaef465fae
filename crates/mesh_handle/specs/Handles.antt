-- What the calls on a handle answer. What a handle holds is seen as the mesh, if there is one.
use Rattle.std.specs.Prelude.{◌≡◌, ℕ, ◌<◌, ◌≤◌, ◌^◌, ◌⊎◌, List, [], ◌∷◌, length, Option, None, Some}
use Rattle.point_order.specs.Complex.{complex}
use Rattle.point_order.specs.Coordinates.{IsKey}
use Rattle.point_order.specs.Sets.{IsIn}
use Rattle.point_order.specs.declared.cell.Cell.TheVariants.{Full, Open}
use Rattle.edit_history.specs.declared.history.Edit.{Edit}
use Rattle.edit_history.specs.declared.history.Edit.TheVariants.{Add, Take, Move}
use Rattle.edit_history.specs.declared.history.Reply.{Reply}
use Rattle.edit_history.specs.Edits.{reply_to}
use Rattle.edit_history.specs.Histories.{replay}
use Rattle.hole_laws.specs.Edits.{GoesFrom}
use Rattle.mesh_handle.specs.Held.{MeshView}
use Rattle.nearest_points.specs.Points.{IsNearest}
use Rattle.linked_mesh.specs.Applied.{edited}
use Rattle.mesh_rows.specs.declared.rows.Place.{Place}
use Rattle.mesh_rows.specs.declared.rows.CellRow.{CellRow}
use Rattle.mesh_rows.specs.declared.rows.TriangleRow.{TriangleRow}
use Rattle.mesh_rows.specs.Rows.{point_place}
use Rattle.mesh_rows.specs.Meshes.{AreMeshRows, HasOutside, IsSetOf}
use Rattle.mesh_handle.specs.declared.looks.Located.{Located}
use Rattle.mesh_handle.specs.declared.place.Location.{Location}
use Rattle.mesh_handle.specs.declared.place.Location.TheVariants.{Vertex, Inside}
use Rattle.mesh_handle.specs.declared.refusal.Refusal.{Refusal}
use Rattle.mesh_handle.specs.declared.refusal.Refusal.TheVariants.{Memory, Outside, Empty, Full, Unknown}

-- the point at a place
pub record IsPointAt (place : Place) (p : ℕ) : Type 0 where
  pub key : IsKey p
  pub there : point_place p ≡ place

-- it holds a mesh that has exactly the points at the given places
abbrev pub HoldsPoints : List Place → Option MeshView → Type 0
HoldsPoints given None = ⊥
HoldsPoints given (Some mesh) = IsSetOf given (replay mesh)

-- ---- edits

-- it held a mesh with less than 2^32 entries, of which the edit was made, with this reply
abbrev pub WasEdited : Option MeshView → Edit → Option MeshView → Reply → Type 0
WasEdited None edit new reply = ⊥
WasEdited (Some mesh) edit new reply =
    (length mesh < 2 ^ 32) × (new ≡ Some (edited mesh 0 edit)) × (reply ≡ reply_to (replay mesh) edit)

-- the point at the place was added
abbrev pub WasAdded : Option MeshView → Place → Option MeshView → Reply → Type 0
WasAdded old place new reply = (p : ℕ) × IsPointAt place p × WasEdited old (Add p) new reply

-- taken
abbrev pub WasTaken : Option MeshView → Place → Option MeshView → Reply → Type 0
WasTaken old place new reply = (p : ℕ) × IsPointAt place p × WasEdited old (Take p) new reply

-- moved
abbrev pub WasMoved : Option MeshView → Place → Place → Option MeshView → Reply → Type 0
WasMoved old from to new reply =
    (a : ℕ) × (b : ℕ) × IsPointAt from a × IsPointAt to b × WasEdited old (Move a b) new reply

-- ---- refusals

-- it holds a mesh with 2^32 entries or more
abbrev pub IsFull : Option MeshView → Type 0
IsFull None = ⊥
IsFull (Some mesh) = 2 ^ 32 ≤ length mesh

-- it holds a mesh whose points, or the cells of whose complex, are 2^32 or more
abbrev pub HasMany : Option MeshView → Type 0
HasMany None = ⊥
HasMany (Some mesh) =
    (2 ^ 32 ≤ length (replay mesh)) ⊎ (2 ^ 32 ≤ length (complex (replay mesh)))

-- why an edit of these places is not made; memory may be wanting at any time
abbrev pub IsRefusalCause : Option MeshView → List Place → Refusal → Type 0
IsRefusalCause held places Memory = Unit {0}
IsRefusalCause held places Outside = HasOutside places
IsRefusalCause held places Empty = held ≡ None
IsRefusalCause held places Full = IsFull held
IsRefusalCause held places Unknown = ⊥

-- why no rows are made
abbrev pub IsLack : Option MeshView → Refusal → Type 0
IsLack held Memory = Unit {0}
IsLack held Empty = held ≡ None
IsLack held Full = HasMany held
IsLack held _ = ⊥

-- why a look at these places finds nothing
abbrev pub IsMiss : Option MeshView → List Place → Refusal → Type 0
IsMiss held places Outside = HasOutside places
IsMiss held places Empty = held ≡ None
IsMiss held places _ = ⊥

-- ---- looks

-- the rows are those of the mesh
abbrev pub ShowsRows : Option MeshView → List Place → List CellRow → List CellRow → List TriangleRow → Type 0
ShowsRows None points cells neighbours hull = ⊥
ShowsRows (Some mesh) points cells neighbours hull = AreMeshRows (replay mesh) points cells neighbours hull

-- a point of the set stands at the place, or else a cell is in conflict with it
abbrev pub IsWhere : List ℕ → ℕ → Location → Type 0
IsWhere s p Vertex = IsIn p s
IsWhere s p (Inside cell) = (¬ (IsIn p s)) × GoesFrom s p cell

-- how that is told
abbrev pub row_of : ℕ → Location → Located
row_of p Vertex =
    record { kind = 0; a = point_place p; b = point_place p; c = point_place p; d = point_place p }
row_of p (Inside (Full (a ∷ b ∷ c ∷ d ∷ []))) =
    record { kind = 1; a = point_place a; b = point_place b; c = point_place c; d = point_place d }
row_of p (Inside (Open (a ∷ b ∷ c ∷ []))) =
    record { kind = 2; a = point_place a; b = point_place b; c = point_place c; d = point_place p }
row_of p _ = record { kind = 3; a = point_place p; b = point_place p; c = point_place p; d = point_place p }

-- it is told where a point lies
abbrev pub IsToldOf : List ℕ → ℕ → Located → Type 0
IsToldOf s p located = (at : Location) × IsWhere s p at × (located ≡ row_of p at)

-- where a place lies in the mesh
abbrev pub LiesAt : Option MeshView → Place → Located → Type 0
LiesAt None place located = ⊥
LiesAt (Some mesh) place located = (p : ℕ) × IsPointAt place p × IsToldOf (replay mesh) p located

-- where the nearest point of the mesh to a place lies
abbrev pub NearestIs : Option MeshView → Place → Place → Type 0
NearestIs None place near = ⊥
NearestIs (Some mesh) place near =
    (p : ℕ) × (n : ℕ) × IsPointAt place p × IsNearest (replay mesh) p n × (near ≡ point_place n)
