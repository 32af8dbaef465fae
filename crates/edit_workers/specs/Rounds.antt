-- Work on a list in rounds.
use Rattle.std.specs.Prelude.{◌≡◌, ◌⊎◌, ℕ, ◌+◌, ◌*◌, ◌<◌, ◌≤◌, Bool, true, false, List, [], ◌∷◌, ◌++◌, map, length, All}
use Rattle.std.specs.Prelude.{AllPairs, IsPermutation}
use Rattle.std.specs.List.{list_any}
use Rattle.edit_history.specs.declared.history.Edit.{Edit}
use Rattle.edit_history.specs.declared.history.Entry.{Entry}
use Rattle.edit_history.specs.Edits.{share_point}
use Rattle.claim_table.specs.declared.view.Act.{Act}
use Rattle.claim_table.specs.Trails.{misses}
use Rattle.grid_claims.specs.Passes.{Standing}
use Rattle.plain_laws.specs.Running.{Pair}
use Rattle.edit_workers.specs.declared.rounds.Waiting.{Waiting}
use Rattle.edit_workers.specs.Running.{AscendAtPoint}
use Rattle.edit_workers.specs.Trying.{OwnsAll, HasMadeOne, HasMissed}
use Rattle.edit_workers.specs.Working.{AreEntriesOf, HasMade}

-- the pairs that wait
abbrev pub pairs_of : List Waiting → List Pair
pairs_of l = map (λ one. one.pair) l

-- one of them shares a point with this edit
abbrev pub waits_with : Edit → List Waiting → Bool
waits_with edit l = list_any (λ one. share_point one.pair.1 edit) l

-- how often they were busy, all together
abbrev pub tries_of : List Waiting → ℕ
tries_of [] = 0
tries_of (one ∷ l) = one.tries + tries_of l

-- each was busy 64 times at most
abbrev pub AllFew : List Waiting → Type 0
AllFew l = All (λ one. one.tries ≤ 64) l

-- none was busy
abbrev pub AllFresh : List Waiting → Type 0
AllFresh l = All (λ one. one.tries ≡ 0) l

-- a pair that was not tried
abbrev pub fresh : Pair → Waiting
fresh pair = record { pair = pair; tries = 0 }

-- ---- one pair

-- It waits behind the others, untried: it was busy 64 times, or shares a point with one that waits.
pub record Waits (one : Waiting) (before kept : List Waiting) (old new : Standing) : Type 0 where
  pub why : (one.tries ≡ 64) ⊎ (waits_with one.pair.1 before ≡ true)
  pub behind : kept ≡ before ++ one ∷ []
  pub as_before : new ≡ old

-- It was tried, and waits as one that was busy once more.
pub record IsBusy (one : Waiting) (before kept : List Waiting) (old new : Standing) : Type 0 where
  pub few : one.tries < 64
  pub behind : kept ≡ before ++ record one { tries = one.tries + 1 } ∷ []
  pub missed : HasMissed 1 old new

-- It was made. It shares no point with one that waits.
pub record IsMadeInRound (one : Waiting) (before kept : List Waiting) (old new : Standing) : Type 0 where
  pub few : one.tries < 64
  pub apart : waits_with one.pair.1 before ≡ false
  pub same : kept ≡ before
  pub made : HasMadeOne 1 one.pair.0 one.pair.1 old new

-- one of the three
abbrev pub IsTriedOrWaits : Waiting → List Waiting → List Waiting → Standing → Standing → Type 0
IsTriedOrWaits one before kept old new =
    Waits one before kept old new ⊎ (IsBusy one before kept old new ⊎ IsMadeInRound one before kept old new)

-- ---- all pairs

-- Each pair of the list was made or waits, once. Where pairs of one point stand by their tags in the list, they do so
-- in those made with those that wait behind them. Each failed claim is one more try of a pair, which has 64 at most; a
-- pass that owns all parts makes the pairs as they stand.
pub record AreMadeOrWait (list waiting : List Waiting) (old new : Standing) : Type 0 where
  pub made : List Pair
  pub entries : List Entry
  pub steps : List Act
  pub entries_are : AreEntriesOf old made entries
  pub pass : HasMade old new entries steps
  pub same : IsPermutation (pairs_of list) (made ++ pairs_of waiting)
  pub order : AllPairs AscendAtPoint (pairs_of list) → AllPairs AscendAtPoint (made ++ pairs_of waiting)
  pub few : AllFew list → AllFew waiting
  pub tries : misses steps + tries_of list ≤ 64 * length made + tries_of waiting
  pub alone : OwnsAll old → AllFresh list → (made ++ pairs_of waiting ≡ pairs_of list) × AllFresh waiting

-- Each pair of the list was made or is left over, once; pairs of one point that stand by their tags do so in those made
-- with those left over behind them. No more claims failed than 64 for each pair. A pass that owns all parts makes all
-- pairs, in their order.
pub record IsWorkedInRounds (list left : List Pair) (old new : Standing) : Type 0 where
  pub made : List Pair
  pub entries : List Entry
  pub steps : List Act
  pub entries_are : AreEntriesOf old made entries
  pub pass : HasMade old new entries steps
  pub same : IsPermutation list (made ++ left)
  pub order : AllPairs AscendAtPoint list → AllPairs AscendAtPoint (made ++ left)
  pub few : misses steps ≤ 64 * length list
  pub alone : OwnsAll old → (left ≡ []) × (made ≡ list)
