use Rattle.text_readings.specs.PointLines.{line_of_point}
use Rattle.edit_files.proofs.Written.{line_put, lines_put}
use Rattle.edit_files.proofs.writing.put_points.Goals as goal

pub loop-point-preserved : goal.loop-point-preserved
loop-point-preserved c =
    line_put line_of_point c.args.points.now c.loop-point.point-index c.point-item.result c.loop-point.text.items
    c.put_point.new.text.items _ c.loop-point-test.true c.point-item.is c.in_ok-put_point.ensures
    c.loop-point.invariant

pub returns : goal.returns
returns c = lines_put line_of_point c.args.points.now c.loop-point.point-index c.loop-point.text.items _
    c.loop-point-test.false c.loop-point.invariant
