use Rattle.edit_files.specs.Writing.{edit_text}
use Rattle.edit_files.proofs.Written.{line_put, lines_put}
use Rattle.edit_files.proofs.writing.put_edits.Goals as goal

pub loop-edit-preserved : goal.loop-edit-preserved
loop-edit-preserved c =
    line_put edit_text c.args.edits.now c.loop-edit.edit-index c.edit-item.result c.loop-edit.text.items
    c.put_edit.new.text.items _ c.loop-edit-test.true c.edit-item.is c.in_ok-put_edit.ensures c.loop-edit.invariant

pub returns : goal.returns
returns c = lines_put edit_text c.args.edits.now c.loop-edit.edit-index c.loop-edit.text.items _ c.loop-edit-test.false
    c.loop-edit.invariant
