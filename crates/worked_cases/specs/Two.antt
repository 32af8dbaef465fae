-- The two passes of a scene.
use Rattle.std.specs.Prelude.{◌≡◌, ℕ, ◌+◌}
use Rattle.grid_claims.specs.Passes.{Opened, Standing}

-- The passes are all passes of the table: the first one has so many parts, and those of the other one come next.
pub record AreTwo (table : Opened) (pass other : Standing) (parts : ℕ) : Type 0 where
  pub table_is : pass.table ≡ table
  pub other_is : other.table ≡ table
  pub parts_are : pass.parts ≡ parts
  pub next : other.first ≡ pass.first + pass.parts
  pub all : pass.parts + other.parts ≡ table.parts
