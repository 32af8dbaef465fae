use Rattle.std.proofs.Common.{◌≡◌, ◌<◌, false, slice_index_or, None, ℕ}
use Rattle.edit_history.specs.Edits.{share_point}
use Rattle.part_edits.specs.Lists.{answer_at}
use Rattle.part_edits.specs.Made.{Line}
use Rattle.part_edits.proofs.work.shares_with_left.Given as goal

abbrev pub invariant-loop-k : goal.invariant-loop-k
invariant-loop-k l =
    (j : ℕ) (d : Line) → j < l.k → answer_at l.answers j ≡ None →
    share_point (slice_index_or l.lines j d).1 (slice_index_or l.lines l.i d).1 ≡ false
