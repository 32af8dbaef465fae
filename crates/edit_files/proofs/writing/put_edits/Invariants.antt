-- what is put so far and the lines that are left are all of them
use Rattle.std.proofs.Common.{◌≡◌, ◌++◌, drop}
use Rattle.std.specs.Prelude.{map}
use Rattle.text_readings.specs.Readings.{text_of}
use Rattle.edit_files.specs.Writing.{edit_text}
use Rattle.edit_files.proofs.writing.put_edits.Given as goal

abbrev pub invariant-loop-edit : goal.invariant-loop-edit
invariant-loop-edit l =
    l.text.items ++ text_of (map edit_text (drop l.edit-index l.edits)) ≡ l.fn.text.items ++ text_of (map edit_text
    l.edits)
