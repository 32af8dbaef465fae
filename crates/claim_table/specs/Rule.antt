-- The rule of the running table.
use Rattle.std.specs.Prelude.{◌≡◌, ℕ, ◌+◌, ◌-◌, ◌<◌, ◌↔◌, List, [], length, map, replicate, Option, None, Some, IsSome}
use Rattle.std.specs.Prelude.{All}
use mathlib.Core.Option.{some}
use lib.ListN.{get_elem?}
use Rattle.atomic_table.specs.Table.{State}
use Rattle.list_laws.specs.Lists.{AreDistinct}
use Rattle.point_order.specs.Sets.{IsIn}
use Rattle.edit_history.specs.declared.history.Entry.{Entry}
use Rattle.cell_store.specs.Buckets.{BucketContent, bucket_at}
use Rattle.claim_rule.specs.Boards.{made_by}
use Rattle.claim_rule.specs.Boards as board
use Rattle.claim_rule.specs.Good.{StartsWith, IsGood}
use Rattle.claim_table.specs.declared.view.Key.{Key}
use Rattle.claim_table.specs.declared.view.View.{View}
use Rattle.claim_table.specs.declared.view.Child.{Child}
use Rattle.claim_table.specs.Faces.{buckets_of, opening_of, passes_in, board_of}
use Rattle.claim_table.specs.Trails.{in_hand, AreSteps}
use Rattle.claim_table.specs.Reached.{IsLedTo}

-- what a pass that was split off and has no seat has made
pub record IsChildInOrder (k : Key) (h : List Entry) (c : Child) : Type 0 where
  pub some_part : 0 < c.parts
  pub made : c.made ≡ made_by c.first c.parts (length (opening_of k)) h

-- What a seat knows: its pass's own entries, a front of the history, and what its trail says: which buckets it holds,
-- and that each of
-- its commits is in the history. A seat with no part holds nothing.
pub record IsSeatInOrder (k : Key) (h : List Entry) (v : View) : Type 0 where
  pub table : 0 < v.parts → (v.grid ≡ k.grid) × (v.all ≡ k.parts) × (v.opening ≡ opening_of k)
  pub places : 0 < v.parts → length v.held ≡ buckets_of k
  pub idle : v.parts ≡ 0 → (v.child ≡ None) × ((b : ℕ) → bucket_at v.held b ≡ None)
  pub made : 0 < v.parts → v.made ≡ made_by v.first v.parts (length (opening_of k)) h
  pub known : StartsWith h v.known
  pub holds : (b : ℕ) → IsSome (bucket_at v.held b) ↔ IsIn b (in_hand v.trail)
  pub once : AreDistinct (in_hand v.trail)
  pub steps : AreSteps k.grid h v.trail
  pub child : (c : Child) → v.child ≡ Some c → IsChildInOrder k h c

-- The rule, with this history: seen as a board the table is good; no two live passes have one number, and each is
-- below the number of
-- parts, so the board shows them all; each seat is in order; and events led here from the board with which it began.
pub record IsRule (k : Key) (s : State (Option BucketContent) View) (h : List Entry) : Type 0 where
  pub good : IsGood (board_of k s) h
  pub words : length s.words ≡ buckets_of k + 1
  pub apart : AreDistinct (map (λ (v : board.View). v.first) (passes_in (buckets_of k) s.views))
  pub below : All (λ (v : board.View). v.first < k.parts) (passes_in (buckets_of k) s.views)
  pub seats : (j : ℕ) (v : View) → get_elem? s.views j ≡ some v → IsSeatInOrder k h v
  pub reached : IsLedTo k s h

abbrev pub Rule : Key → State (Option BucketContent) View → Type 0
Rule k s = (h : List Entry) × IsRule k s h

-- the first pass: it owns all parts, and has seen the mesh with which the table began
abbrev pub opening_view : Key → View
opening_view k = record {
  grid = k.grid;
  all = k.parts;
  opening = opening_of k;
  first = 0;
  parts = k.parts;
  left = k.most - length (opening_of k);
  seen = length (opening_of k);
  since = length (opening_of k);
  held = replicate (buckets_of k) None;
  made = [];
  known = opening_of k;
  trail = [];
  child = None;
}
