-- What holds of a table between any two steps.
use Rattle.std.specs.Prelude.{◌≡◌, ℕ, suc, ◌<◌, length, slice_get, slice_index, Option}
use mathlib.Core.Option.{some}
use lib.ListN.{get_elem?}
use Rattle.atomic_table.specs.Table.{State}
use Rattle.round_table.specs.declared.view.Key.{Key}
use Rattle.round_table.specs.declared.view.View.{View}
use Rattle.round_table.specs.Counts.{total, claims_in, claims_by}
use Rattle.round_table.specs.Rule.{contents_of, IsRule}

-- every bucket is in its slot, as the table was opened, and nobody has claimed any
pub record IsUntouched {T : Type 0} (k : Key T) (s : State (Option T) (View T)) : Type 0 where
  pub home : (b : ℕ) → b < length (contents_of k) → get_elem? s.homes b ≡ some (some (slice_get (contents_of k) b))
  pub none : (b : ℕ) → total (claims_in b) s.views ≡ 0

abbrev pub NoneClaimed : Type 0 → Type 0
NoneClaimed T = (k : Key T) (s : State (Option T) (View T)) → IsRule k s → ((b : ℕ) → slice_index s.words b ≡ 0) →
    IsUntouched k s

-- the bucket stands once among the claims of all hands, and once among those of this number
abbrev pub OneOwner : Type 0 → Type 0
OneOwner T = (k : Key T) (s : State (Option T) (View T)) (b m : ℕ) → IsRule k s → slice_index s.words b ≡ suc m →
    (total (claims_in b) s.views ≡ 1) × (total (claims_by m b) s.views ≡ 1)
