-- Files as functions take and give them: as they lie in memory, and what one may hold that is to be written.
use Rattle.std.specs.Prelude.{◌≡◌, ℕ, false, List, [], map, ◌++◌, ◌+◌, ◌≤◌, ◌<◌, length, IsTrue}
use Rattle.std.specs.List.{AllByRecursion}
use Rattle.point_order.specs.Coordinates.{IsKey}
use Rattle.edit_history.specs.declared.history.Edit.{Edit}
use Rattle.edit_history.specs.declared.history.Edit.TheVariants.{Add}
use Rattle.edit_history.specs.Edits.{HasKeys, is_move}
use Rattle.edit_files.specs.Content.{Content, row}
use Rattle.edit_files.specs.Grammar.{IsWithinNewest, Limits, query_limit, radius_limit}
use Rattle.edit_files.specs.declared.file.File.{File}
use Rattle.edit_files.specs.declared.version.Version.{Version}

-- a file without where its lists lie in memory
abbrev pub content : File → Content
content f =
    record {
      version = f.version;
      points = f.points.items;
      edits = f.edits.items;
      radii = f.radii.items;
      queries = f.queries.items;
    }

-- the point lines as adds, then the edit lines
abbrev pub lines_in_order : List ℕ → List Edit → List Edit
lines_in_order points edits = map Add points ++ edits

-- an edit that a file of a version may have: its points are keys, and it moves one only where the version has moves
abbrev pub IsEditOf : Version → Edit → Type 0
IsEditOf version e = HasKeys e × (IsTrue (is_move e) → IsTrue (row version).moves)

-- What a file may hold: a version that is taken, points, edits and radii of the version, queries where it has them,
-- and no more lines than there may be.
pub record IsWithinLimits (limits : Limits) (f : Content) : Type 0 where
  pub version : IsWithinNewest limits f.version
  pub points : AllByRecursion IsKey f.points
  pub edits : AllByRecursion (IsEditOf f.version) f.edits
  pub radii : AllByRecursion (λ r. r < (row f.version).radius_end) f.radii
  pub queries : AllByRecursion IsKey f.queries
  pub unasked : (row f.version).queries ≡ false → f.queries ≡ []
  pub line_count : length f.points + length f.edits ≤ limits.lines
  pub radius_count : length f.radii ≤ radius_limit
  pub query_count : length f.queries ≤ query_limit
