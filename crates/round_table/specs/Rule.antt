-- The rule of the table.
use Rattle.std.specs.Prelude.{◌≡◌, ℕ, ◌^◌, ◌<◌, ◌≤◌, ltb, List, [], map, length, slice_get, slice_index, Option}
use Rattle.std.specs.List.{range_with_len}
use mathlib.Core.Option.{some}
use lib.ListN.{get_elem?}
use Rattle.atomic_table.specs.Table.{State}
use Rattle.round_table.specs.declared.view.Key.{Key}
use Rattle.round_table.specs.declared.view.Hand.{Hand}
use Rattle.round_table.specs.declared.view.View.{View}
use Rattle.round_table.specs.Counts.{one, total, each, claims_in, claims_by, is_named, is_taken, is_by}

-- the contents with which the table was opened
abbrev pub contents_of : {T : Type 0} → Key T → List T
contents_of k = k.contents.value.items

-- a seat that knows the table
abbrev pub Knows : {T : Type 0} → Key T → View T → Type 0
Knows k v = (v.contents ≡ contents_of k) × (v.workers ≡ k.workers)

-- What a bucket was opened with is in its slot where its word is 0. A bucket stands among the claims of the hands once
-- where its word is not 0, in the hand whose number the word tells, else not at all. There is one hand of each number
-- below the number of passes, and no other. A seat with a hand knows the table.
pub record IsRule {T : Type 0} (k : Key T) (s : State (Option T) (View T)) : Type 0 where
  pub words : length s.words ≡ length (contents_of k)
  pub few : k.workers < 2 ^ 32
  pub low : (b : ℕ) → slice_index s.words b ≤ k.workers
  pub home : (b : ℕ) → b < length (contents_of k) → slice_index s.words b ≡ 0 →
      get_elem? s.homes b ≡ some (some (slice_get (contents_of k) b))
  pub once : (b : ℕ) → total (claims_in b) s.views ≡ is_taken (slice_index s.words b)
  pub whose : (m b : ℕ) → total (claims_by m b) s.views ≡ is_by m (slice_index s.words b)
  pub named : (m : ℕ) → total (is_named m) s.views ≡ one (ltb m k.workers)
  pub count : total each s.views ≡ k.workers
  pub knows : (j : ℕ) (v : View T) → get_elem? s.views j ≡ some v → 0 < length v.hands →
      (v.contents ≡ contents_of k) × (v.workers ≡ k.workers)

-- a hand that has claimed nothing
abbrev pub empty_hand : ℕ → Hand
empty_hand m = record { number = m; claims = [] }

-- the view of the first seat, which stands for all passes
abbrev pub opening_view : {T : Type 0} → Key T → View T
opening_view k = record {
  contents = contents_of k;
  workers = k.workers;
  hands = map empty_hand (range_with_len 0 k.workers);
}
