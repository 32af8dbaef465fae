-- each line has the reply of the first entry with its tag among those that were looked at, the last ones
use Rattle.std.proofs.Common.{◌≡◌, ◌<◌, ℕ, length, drop, get_or}
use Rattle.edit_history.specs.declared.history.Reply.TheVariants.{Missing}
use Rattle.plain_laws.specs.Plain.{reply_at}
use Rattle.command_pages.proofs.replies.replies_by_tag.Given as goal

abbrev pub invariant-loop-i : goal.invariant-loop-i
invariant-loop-i l =
    (length l.replies.items ≡ l.count) × ((t : ℕ) → t < l.count →
    get_or l.replies.items t Missing ≡ reply_at (drop l.i l.kept) t)
