use Rattle.std.proofs.Common.{[], List, ℕ, ◌++◌, take}
use Rattle.std.specs.List.{filter}
use Rattle.edit_history.specs.declared.history.Edit.{Edit}
use Rattle.edit_history.specs.OneThread.{tagged_lines}
use Rattle.point_history.specs.Logs.{IsLogOf, is_picked}
use Rattle.point_history.proofs.entries.Log.add_picked.Given as goal

-- the lines in front of the place, those that are picked of them
abbrev pub invariant-loop-place : goal.invariant-loop-place
invariant-loop-place l =
    (lines : List (ℕ × Edit)) → IsLogOf lines l.initial.self →
    IsLogOf (lines ++ filter (λ line. is_picked l.fn.of_four l.fn.four line.0)
    (take l.place (tagged_lines l.fn.points []))) l.self
