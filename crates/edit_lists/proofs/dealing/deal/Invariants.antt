use Rattle.std.specs.Prelude.{take}
use Rattle.edit_history.specs.OneThread.{tagged_lines}
use Rattle.plain_laws.specs.Running.{other_lines}
use Rattle.edit_lists.specs.Cutting.{AreCut}
use Rattle.edit_lists.proofs.dealing.deal.Given as goal

abbrev pub invariant-loop-place : goal.invariant-loop-place
invariant-loop-place l =
    AreCut l.fn.workers
    (other_lines l.fn.four (take l.place-counter (tagged_lines l.fn.file.points.items l.fn.file.edits.items))) l.cutter
