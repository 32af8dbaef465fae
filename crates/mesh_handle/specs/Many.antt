-- Many edits and many looks, one after another.
use Rattle.std.specs.Prelude.{◌≡◌, ℕ, ◌<◌, ◌≤◌, ◌⊎◌, List, [], ◌∷◌, Option, None, Result, Ok, Err}
use Rattle.edit_history.specs.declared.history.Reply.{Reply}
use Rattle.mesh_handle.specs.Held.{MeshView}
use Rattle.mesh_rows.specs.declared.rows.Place.{Place}
use Rattle.mesh_rows.specs.Rows.{LiesOutside}
use Rattle.mesh_handle.specs.declared.many.EditRow.{EditRow}
use Rattle.mesh_handle.specs.declared.refusal.Refusal.{Refusal}
use Rattle.mesh_handle.specs.declared.refusal.Refusal.TheVariants.{Memory, Outside, Empty, Full, Unknown}
use Rattle.mesh_handle.specs.Handles.{IsFull, IsMiss, WasAdded, WasMoved, WasTaken}
use Rattle.mesh_handle.specs.Replies.{TellsReply, reply_number}

-- ---- edits

-- The edit was made by its kind, and the number tells its reply.
pub record WasMade (old : Option MeshView) (edit : EditRow) (new : Option MeshView) (number : ℕ) : Type 0 where
  pub kind : edit.kind ≤ 2
  pub add : edit.kind ≡ 0 → TellsReply number (WasAdded old edit.place new)
  pub take : edit.kind ≡ 1 → TellsReply number (WasTaken old edit.place new)
  pub shift : edit.kind ≡ 2 → TellsReply number (WasMoved old edit.place edit.to new)

-- the number of an answer's reply
abbrev pub told_of : Result Reply Refusal → Result ℕ Refusal
told_of (Ok reply) = Ok (reply_number reply)
told_of (Err refusal) = Err refusal

-- the edits were made one after another, and the numbers tell their replies
abbrev pub WereMade : Option MeshView → List EditRow → Option MeshView → List ℕ → Type 0
WereMade old [] new [] = new ≡ old
WereMade old [] new (number ∷ numbers) = ⊥
WereMade old (edit ∷ edits) new [] = ⊥
WereMade old (edit ∷ edits) new (number ∷ numbers) =
    (between : Option MeshView) × WasMade old edit between number × WereMade between edits new numbers

-- an edit of one of the kinds names a place of no point
abbrev pub NamesOutside : EditRow → Type 0
NamesOutside edit = ((edit.kind ≤ 2) × LiesOutside edit.place) ⊎ ((edit.kind ≡ 2) × LiesOutside edit.to)

-- why an edit is not made; memory may be wanting at any time
abbrev pub IsEditCause : Option MeshView → EditRow → Refusal → Type 0
IsEditCause held edit Memory = Unit {0}
IsEditCause held edit Outside = NamesOutside edit
IsEditCause held edit Empty = held ≡ None
IsEditCause held edit Full = IsFull held
IsEditCause held edit Unknown = 2 < edit.kind

-- Why an edit is not made, and that a place of no point is told before all else.
pub record IsEditStop (held : Option MeshView) (edit : EditRow) (r : Refusal) : Type 0 where
  pub cause : IsEditCause held edit r
  pub first : NamesOutside edit → r ≡ Outside

-- ---- looks

-- Why a look finds nothing, and that a place of no point is told before all else.
pub record IsLookStop (held : Option MeshView) (place : Place) (r : Refusal) : Type 0 where
  pub cause : IsMiss held (place ∷ []) r
  pub first : LiesOutside place → r ≡ Outside
