-- what is put so far and the lines that are left are all of them
use Rattle.std.proofs.Common.{◌≡◌, ◌++◌, drop}
use Rattle.std.specs.Prelude.{map, decimal}
use Rattle.text_readings.specs.Readings.{text_of}
use Rattle.edit_files.proofs.writing.put_radii.Given as goal

abbrev pub invariant-loop-radius : goal.invariant-loop-radius
invariant-loop-radius l =
    l.text.items ++ text_of (map decimal (drop l.radius-index l.radii)) ≡ l.fn.text.items ++ text_of
    (map decimal l.radii)
