-- The search for a first cell that a new point takes away.
use Rattle.std.specs.Prelude.{ℕ, List}
use Rattle.point_order.specs.declared.cell.Cell.{Cell}
use Rattle.point_order.specs.Sets.{IsIn}
use Rattle.hole_laws.specs.Edits.{IsNew, GoesFrom}
use Rattle.cell_store.specs.Buckets.{InHand}
use Rattle.cell_store.specs.Shares.{Shows}

-- the hold shows a set for which the point is new
abbrev pub ShowsNew : InHand → ℕ → Type 0
ShowsNew hold p = (s : List ℕ) × Shows hold s × IsNew s p

-- the new point takes none of the cells away
abbrev pub NoneGoes : List ℕ → ℕ → List Cell → Type 0
NoneGoes s p cells = (c : Cell) → IsIn c cells → GoesFrom s p c → ⊥
