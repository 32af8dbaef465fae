-- the tags of a front of the entries
use Rattle.std.proofs.Common.{◌≡◌, take}
use Rattle.command_pages.specs.Report.{tags_of}
use Rattle.command_pages.proofs.parts.tags.Given as goal

abbrev pub invariant-loop-entry : goal.invariant-loop-entry
invariant-loop-entry l = l.tags.items ≡ tags_of (take l.entry-index l.entries)
