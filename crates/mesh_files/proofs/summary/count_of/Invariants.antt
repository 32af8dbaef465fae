-- those with the word so far are counted
use Rattle.std.proofs.Common.{◌≡◌, ◌≤◌, take}
use Rattle.mesh_files.specs.Summary.{replies_with}
use Rattle.mesh_files.proofs.summary.count_of.Given as goal

abbrev pub invariant-loop-reply : goal.invariant-loop-reply
invariant-loop-reply l = (l.count ≤ l.reply-index) × (l.count ≡ replies_with (take l.reply-index l.replies) l.word)
