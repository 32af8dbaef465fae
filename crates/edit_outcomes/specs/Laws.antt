-- The laws of what a list of edits comes to.
use Rattle.std.specs.Prelude.{◌≡◌, ℕ, ◌↔◌, ◌⊎◌, List, map}
use Rattle.std.specs.List.{enumerate_from}
use Rattle.point_order.specs.Sets.{IsIn}
use Rattle.edit_history.specs.declared.history.Edit.{Edit}
use Rattle.edit_history.specs.Histories.{entries_from, replay_from}
use Rattle.edit_outcomes.specs.Outcomes.{left, replies, lacking}

-- the entries that one thread makes of the edits, whatever their numbers and tags, have these replies
abbrev pub EntriesReply : Type 0
EntriesReply =
    (n first : ℕ) (s : List ℕ) (edits : List Edit) →
    map (λ e. e.reply) (entries_from n s (enumerate_from first edits)) ≡ replies s edits

-- and leave this set
abbrev pub EntriesLeave : Type 0
EntriesLeave =
    (n first : ℕ) (s : List ℕ) (edits : List Edit) →
    replay_from s (entries_from n s (enumerate_from first edits)) ≡ left s edits

-- a set has the points of another one but those that it lacks, and besides those that the other one lacks
abbrev pub SetByChanges : Type 0
SetByChanges =
    (s t : List ℕ) (p : ℕ) → IsIn p t ↔ ((IsIn p s × ¬ (IsIn p (lacking t s))) ⊎ IsIn p (lacking s t))
