use Rattle.std.specs.Prelude.{take}
use Rattle.plain_laws.specs.Running.{edit_lines}
use Rattle.edit_lists.specs.Cutting.{AreCut}
use Rattle.edit_lists.proofs.dealing.deal_edits.Given as goal

abbrev pub invariant-loop-place : goal.invariant-loop-place
invariant-loop-place l =
    AreCut l.fn.workers (take l.place (edit_lines l.fn.file.points.items l.fn.file.edits.items)) l.cutter
