use Rattle.std.proofs.Common.{get_or}
use Rattle.std.specs.Prelude.{decimal}
use Rattle.std.proofs.lemmas.List.{get_or_default}
use Rattle.edit_files.proofs.Written.{line_put, lines_put}
use Rattle.edit_files.proofs.writing.put_radii.Goals as goal

pub loop-radius-preserved : goal.loop-radius-preserved
loop-radius-preserved c =
    let radii = c.args.radii.now in
    let i = c.loop-radius.radius-index in
    line_put decimal radii i (get_or radii i 0) c.loop-radius.text.items c.put_number.new.text.items _
    c.loop-radius-test.true (get_or_default radii i 0 _ c.loop-radius-test.true) c.in_ok-put_number.ensures
    c.loop-radius.invariant

pub returns : goal.returns
returns c = lines_put decimal c.args.radii.now c.loop-radius.radius-index c.loop-radius.text.items _
    c.loop-radius-test.false c.loop-radius.invariant
