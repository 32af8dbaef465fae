-- What an edit file says, and what each version of its form means.
use Rattle.std.specs.Prelude.{ℕ, ◌*◌, ◌^◌, Bool, true, false, List, codes}
use Rattle.edit_history.specs.declared.history.Edit.{Edit}
use Rattle.edit_files.specs.declared.version.Version.{Version}
use Rattle.edit_files.specs.declared.version.Version.TheVariants.{One, Two, Three, Four}

-- the version, and the points, as keys, the edits, the radii and the queries, as keys, each in the order of their lines
pub record Content : Type 0 where
  pub version : Version
  pub points : List ℕ
  pub edits : List Edit
  pub radii : List ℕ
  pub queries : List ℕ

-- The number of a version, the first line of its files, whether edit lines may move points, what number radii are
-- below, how many sixteenths of a squared radius such a number counts, and whether there is a section of queries.
pub record Row : Type 0 where
  pub number : ℕ
  pub title : List ℕ
  pub moves : Bool
  pub radius_end : ℕ
  pub sixteenths : ℕ
  pub queries : Bool

abbrev pub row : Version → Row
row One =
    record { number = 1; title = codes "mesh3 1"; moves = false; radius_end = 2 ^ 30; sixteenths = 16; queries = false }
row Two =
    record { number = 2; title = codes "mesh3 2"; moves = true; radius_end = 2 ^ 30; sixteenths = 16; queries = false }
row Three =
    record { number = 3; title = codes "mesh3 3"; moves = true; radius_end = 2 ^ 34; sixteenths = 1; queries = false }
row Four =
    record { number = 4; title = codes "mesh3 4"; moves = true; radius_end = 2 ^ 34; sixteenths = 1; queries = true }

-- the alpha that a radius of a file of a version means, in sixteenths
abbrev pub alpha_of : Version → ℕ → ℕ
alpha_of version radius = (row version).sixteenths * radius
