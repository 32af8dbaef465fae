-- The numbers that tell replies.
use Rattle.std.specs.Prelude.{◌≡◌, ℕ}
use Rattle.edit_history.specs.declared.history.Reply.{Reply}
use Rattle.edit_history.specs.declared.history.Reply.TheVariants.{Inserted, Duplicate, Removed, Missing, Flat, Moved}
use Rattle.edit_history.specs.declared.history.Reply.TheVariants.{Occupied}

-- the number of a reply
abbrev pub reply_number : Reply → ℕ
reply_number Inserted = 0
reply_number Duplicate = 1
reply_number Removed = 2
reply_number Missing = 3
reply_number Flat = 4
reply_number Moved = 5
reply_number Occupied = 6

-- the number tells a reply of which this holds
abbrev pub TellsReply : ℕ → (Reply → Type 0) → Type 0
TellsReply number P = (reply : Reply) × (number ≡ reply_number reply) × P reply
