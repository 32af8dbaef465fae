-- The laws of anchored files, and of lines that move nothing.
use Rattle.std.specs.Prelude.{◌≡◌, ℕ, ◌+◌, Bool, true, false, ◌==◌, List, length, None, All}
use Rattle.std.specs.List.{filter, last_or}
use Rattle.std.specs.Option.{option_map_or}
use Rattle.edit_history.specs.declared.history.Edit.{Edit}
use Rattle.edit_history.specs.declared.history.Edit.TheVariants.{Add}
use Rattle.edit_history.specs.declared.history.Entry.{Entry}
use Rattle.edit_history.specs.Edits.{point_of, is_move}
use Rattle.edit_history.specs.Histories.{IsLegal, replay}
use Rattle.edit_history.specs.OneThread.{Keeps}
use Rattle.plain_laws.specs.Plain.{IsAnchored, all_edits, is_there, plain_replies, plain_set, replies_by_tag}

-- The history has the plain replies, by the places of the lines, and leaves the plain set.
pub record IsPlain (points : List ℕ) (edits : List Edit) (h : List Entry) : Type 0 where
  pub replies : replies_by_tag (length points + length edits) h ≡ plain_replies (all_edits points edits)
  pub set : replay h ≡ plain_set (all_edits points edits)

-- there are anchored files
abbrev pub SomeFileIsAnchored : Type 0
SomeFileIsAnchored = (points : List ℕ) × (edits : List Edit) × IsAnchored points edits

-- every legal history that keeps an anchored file, for any number of workers, is plain
abbrev pub AnchoredIsPlain : Type 0
AnchoredIsPlain =
    (points : List ℕ) (edits : List Edit) (count : ℕ) (h : List Entry) →
    IsAnchored points edits → Keeps points edits count h → IsLegal h → IsPlain points edits h

-- ---- lines that move nothing

-- the line adds
abbrev pub is_add : Edit → Bool
is_add (Add p) = true
is_add _ = false

-- Without moves a point is there exactly where some line is of it and the last such line adds it.
abbrev pub ThereByLast : Type 0
ThereByLast =
    (lines : List Edit) (p : ℕ) → All (λ line. is_move line ≡ false) lines →
    is_there lines p ≡ option_map_or is_add (last_or None (filter (λ line. point_of line == p) lines)) false
