-- The points of an edit that do not stand with its entry.
use Rattle.std.specs.Prelude.{ℕ, Option, None, Some}
use Rattle.edit_history.specs.declared.history.Edit.{Edit}
use Rattle.edit_history.specs.declared.history.Edit.TheVariants.{Add, Take, Move}
use Rattle.edit_history.specs.declared.history.Reply.{Reply}
use Rattle.edit_history.specs.declared.history.Reply.TheVariants.{Inserted, Duplicate, Removed, Missing, Flat, Moved}
use Rattle.edit_history.specs.declared.history.Reply.TheVariants.{Occupied}

-- the place to which a move goes
abbrev pub goal_of : Edit → Option ℕ
goal_of (Add p) = None
goal_of (Take p) = None
goal_of (Move a b) = Some b

-- the last point of an edit
abbrev pub last_of : Edit → ℕ
last_of (Add p) = p
last_of (Take p) = p
last_of (Move a b) = b

-- the point that came where a point has moved
abbrev pub came : Edit → Reply → Option ℕ
came edit Moved = goal_of edit
came edit Inserted = None
came edit Duplicate = None
came edit Removed = None
came edit Missing = None
came edit Flat = None
came edit Occupied = None
