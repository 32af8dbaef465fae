-- The numbers that tell refusals.
use Rattle.std.specs.Prelude.{ℕ, Option, None, Some}
use Rattle.mesh_handle.specs.declared.refusal.Refusal.{Refusal}
use Rattle.mesh_handle.specs.declared.refusal.Refusal.TheVariants.{Memory, Outside, Empty, Full, Unknown}

-- the status of a refusal
abbrev pub status_number : Refusal → ℕ
status_number Memory = 1
status_number Outside = 2
status_number Empty = 5
status_number Full = 6
status_number Unknown = 7

-- that of a call for many: 0 where nothing was refused
abbrev pub status_after : Option Refusal → ℕ
status_after None = 0
status_after (Some refusal) = status_number refusal
