-- Cells judged from the buckets in hand.
use Rattle.std.specs.Prelude.{ℕ, List}
use Rattle.point_order.specs.declared.cell.Cell.{Cell}
use Rattle.point_order.specs.Complex.{complex}
use Rattle.point_order.specs.Sets.{IsIn}
use Rattle.hole_laws.specs.Edits.{IsNew}
use Rattle.cell_store.specs.Buckets.{InHand}
use Rattle.cell_store.specs.Shares.{Shows}

-- the hold shows a set of whose complex the cell is one, and for which p is a new point
abbrev pub ShowsWithNew : InHand → Cell → ℕ → Type 0
ShowsWithNew hold cell p = (s : List ℕ) × Shows hold s × IsIn cell (complex s) × IsNew s p
