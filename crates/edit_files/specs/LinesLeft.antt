-- What the iterator over a file's lines has left.
use Rattle.std.specs.Prelude.{List}
use Rattle.edit_history.specs.declared.history.Edit.{Edit}
use Rattle.edit_files.specs.declared.file.Lines.{Lines}
use Rattle.edit_files.specs.Held.{lines_in_order}

abbrev pub lines_left : Lines → List Edit
lines_left s = lines_in_order s.points.now s.edits.now
