-- Text on its way into a sink, a page at a time.
use Rattle.std.specs.Prelude.{◌≡◌, ℕ, List, ◌++◌}
use Rattle.std.specs.declared.option.Option.{Option}
use Rattle.std.specs.Io.KnownBytes.{Appends}

-- the sink took what waited before and the piece, but for what waits after
pub record Flows (old new : Option (List ℕ)) (before after piece : List ℕ) : Type 0 where
  pub written : List ℕ
  pub parts : before ++ piece ≡ written ++ after
  pub appended : Appends old new written

-- the sink took a front of what waited before and the piece
pub record FlowsInPart (old new : Option (List ℕ)) (before piece : List ℕ) : Type 0 where
  pub written : List ℕ
  pub rest : List ℕ
  pub parts : before ++ piece ≡ written ++ rest
  pub appended : Appends old new written

-- a sink in memory: the bytes that it holds, and how often it failed
pub record Grown : Type 0 where
  pub bytes : List ℕ
  pub faults : ℕ
