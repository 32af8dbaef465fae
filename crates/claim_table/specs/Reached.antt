-- How the table came to be as it is: by events of its board, one after the other.
use Rattle.std.specs.Prelude.{◌≡◌, ℕ, ◌-◌, ◌<◌, ◌==◌, List, [], ◌∷◌, ◌++◌, length, Option, if◌then◌else◌}
use mathlib.Core.Option.{some}
use lib.ListN.{get_elem?}
use Rattle.atomic_table.specs.Table.{State}
use Rattle.edit_history.specs.declared.history.Entry.{Entry}
use Rattle.cell_store.specs.Buckets.{BucketContent}
use Rattle.claim_rule.specs.Boards.{BoardState}
use Rattle.claim_rule.specs.Good.{IsGood}
use Rattle.claim_rule.specs.Events.{Next, history_after, HasKey}
use Rattle.claim_rule.specs.Opening.{opening_board}
use Rattle.claim_rule.specs.declared.event.Event.{Event}
use Rattle.claim_rule.specs.declared.event.Event.TheVariants.{Claim, Commit, Release, Look, Split, Join}
use Rattle.claim_rule.specs.declared.event.Played.{Played}
use Rattle.claim_rule.specs.declared.event.Played.TheVariants.{Done, Taken, Short}
use Rattle.claim_table.specs.declared.view.Key.{Key}
use Rattle.claim_table.specs.declared.view.View.{View}
use Rattle.claim_table.specs.declared.view.Act.{Act}
use Rattle.claim_table.specs.declared.view.Act.TheVariants.{Claim as DidClaim, Miss as DidMiss, Commit as DidCommit}
use Rattle.claim_table.specs.declared.view.Act.TheVariants.{Release as DidRelease, Look as DidLook}
use Rattle.claim_table.specs.Faces.{opening_of, board_of}

-- An event that came about: which one, what it answered, and the ticket that it found.
pub record Turn : Type 0 where
  pub event : Event
  pub answer : Played
  pub ticket : ℕ

-- it was done, or it found the bucket away; no step of the table is short
abbrev pub CameAbout : Played → Type 0
CameAbout Done = Unit {0}
CameAbout (Taken word) = Unit {0}
CameAbout Short = ⊥

-- These turns, each an event that comes next, lead from a board with one history to a board with another.
abbrev pub LeadOn : List Entry → BoardState → List Turn → List Entry → BoardState → Type 0
LeadOn h s [] h' s' = (h' ≡ h) × (s' ≡ s)
LeadOn h s (t ∷ turns) h' s' =
    (m : BoardState) × HasKey t.event × CameAbout t.answer × (t.ticket ≡ s.ticket) × Next h s t.event t.answer m
    × LeadOn (history_after h s t.event t.answer) m turns h' s'

-- whose event it is
abbrev pub player : Event → ℕ
player (Claim n b) = n
player (Commit n tag edit) = n
player (Release n b) = n
player (Look n) = n
player (Split n parts left) = n
player (Join n m) = n

-- what a pass's trail has of its event: the step, with what it found; nothing of a split or a join
abbrev pub step_of : Event → Played → ℕ → List Act
step_of (Claim n b) Done ticket = DidClaim b ∷ []
step_of (Claim n b) (Taken word) ticket = DidMiss b word ∷ []
step_of (Claim n b) Short ticket = []
step_of (Commit n tag edit) answer ticket = DidCommit ticket ∷ []
step_of (Release n b) answer ticket = DidRelease b ∷ []
step_of (Look n) answer ticket = DidLook ticket ∷ []
step_of (Split n parts left) answer ticket = []
step_of (Join n m) answer ticket = []

-- the steps of the passes with a number, in order
abbrev pub steps_by : ℕ → List Turn → List Act
steps_by n [] = []
steps_by n (t ∷ turns) = (if player t.event == n then step_of t.event t.answer t.ticket else []) ++ steps_by n turns

-- the list ends with these
abbrev pub EndsWith : List Act → List Act → Type 0
EndsWith all end = (before : List Act) × (all ≡ before ++ end)

-- the board with which a table begins
abbrev pub opened_as : Key → BoardState
opened_as k = opening_board k.grid k.parts (k.most - length (opening_of k)) (opening_of k)

-- The board with which the table began was good, and events lead from it to the one that it is now, and make its
-- history; and each live pass's trail is the end of what those of its number were.
pub record IsLedTo (k : Key) (s : State (Option BucketContent) View) (h : List Entry) : Type 0 where
  pub began : IsGood (opened_as k) (opening_of k)
  pub turns : List Turn
  pub lead : LeadOn (opening_of k) (opened_as k) turns h (board_of k s)
  pub trails : (j : ℕ) (v : View) → get_elem? s.views j ≡ some v → 0 < v.parts →
      EndsWith (steps_by v.first turns) v.trail
