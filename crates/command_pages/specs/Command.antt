-- A command: what it may read, and what it makes of that or why nothing, which is what it promises.
use Rattle.std.specs.Prelude.{ℕ, List, Option, String}
use Rattle.std.specs.declared.alloc.Global.{Global}
use Rattle.edit_history.specs.declared.history.Entry.{Entry}
use Rattle.text_readings.specs.declared.fault.Fault.{Fault}
use Rattle.command_words.specs.declared.stop.Stop.{Stop}

-- How many bytes what it reads may have, and what a fault of these is. What it makes for words, where the source had
-- these bytes left: the status with which it ends where the text is written whole, the history and the text. Why it
-- makes none, other than want of memory, by whether the source failed.
pub record Command : Type 1 where
  pub limit : ℕ
  pub is_fault : List ℕ → Fault → Type 0
  pub makes : List (String Global) → Option (List ℕ) → ℕ → List Entry → List ℕ → Type 0
  pub makes_none : Option (List ℕ) → Type 0 → Stop → Type 0
