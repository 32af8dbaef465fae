-- The laws of the running table, as the functions of the crate promise them.
use Rattle.std.specs.Prelude.{List, map, Option}
use Rattle.atomic_table.specs.Table.{State}
use Rattle.edit_history.specs.declared.history.Entry.{Entry}
use Rattle.cell_store.specs.Buckets.{BucketContent}
use Rattle.claim_rule.specs.Good.{IsGood}
use Rattle.claim_rule.specs.Laws.{Runs}
use Rattle.claim_table.specs.declared.view.Key.{Key}
use Rattle.claim_table.specs.declared.view.View.{View}
use Rattle.claim_table.specs.Faces.{board_of}
use Rattle.claim_table.specs.Reached.{Turn, opened_as, IsLedTo}
use Rattle.claim_table.specs.Rule.{Rule}

-- Every state that meets the rule is a good board, and events led to it from the board with which the table began.
abbrev pub EveryStateIsReached : Type 0
EveryStateIsReached =
    (k : Key) (s : State (Option BucketContent) View) → Rule k s →
    (h : List Entry) × IsGood (board_of k s) h × IsLedTo k s h

-- Those events are a run of the board, so the laws of runs hold of it.
abbrev pub ReachedByARun : Type 0
ReachedByARun =
    (k : Key) (s : State (Option BucketContent) View) (h : List Entry) → (r : IsLedTo k s h) →
    Runs (opened_as k) (map (λ (t : Turn). t.event) r.turns) (board_of k s)
