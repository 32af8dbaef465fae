-- what is put so far and the lines that are left are all of them
use Rattle.std.proofs.Common.{◌≡◌, ◌++◌, drop}
use Rattle.std.specs.Prelude.{map}
use Rattle.text_readings.specs.Readings.{text_of}
use Rattle.text_readings.specs.PointLines.{line_of_point}
use Rattle.edit_files.proofs.writing.put_points.Given as goal

abbrev pub invariant-loop-point : goal.invariant-loop-point
invariant-loop-point l =
    l.text.items ++ text_of (map line_of_point (drop l.point-index l.points))
    ≡ l.fn.text.items ++ text_of (map line_of_point
    l.points)
