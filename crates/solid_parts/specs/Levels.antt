-- The numbers of the cells, in order.
use Rattle.std.specs.Prelude.{◌↔◌, ℕ, List}
use Rattle.list_laws.specs.Lists.{IsAscending, IsIn}

-- The same numbers, ascending, each once.
pub record AreLevels (numbers levels : List ℕ) : Type 0 where
  pub same : (n : ℕ) → IsIn n levels ↔ IsIn n numbers
  pub ascending : IsAscending levels
