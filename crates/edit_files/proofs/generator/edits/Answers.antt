use Rattle.std.proofs.Common.{◌∙◌, arith}
use Rattle.edit_files.proofs.Generated.{more_lines, count_lines, goes_back, draws_line, same_state, third_state}
use Rattle.edit_files.proofs.generator.edits.Goals as goal
use Rattle.edit_files.proofs.generator.edits.Goals.{then-before-eq3, else-before-eq3}

pub index-requires : goal.index-requires
index-requires c = omega (
  arith,
  count_lines c.args.start c.loop-before.before c.loop-before.edits.items
      c.loop-before.invariant.lines,
)

-- one more line, which goes back or draws: the lines so far are the first ones, with the state behind their draws
pub loop-before-preserved : goal.loop-before-preserved
loop-before-preserved c =
    let n = c.loop-before.before in
    let edits = c.loop-before.edits.items in
    elim c.if-before-eq3.branch [
      | then-before-eq3 w ↦ record {
        lines = more_lines c.args.start n edits _ c.if-before-eq3.edit c.loop-before.invariant.lines
            (goes_back c.args.start n edits w.index.result.now c.if-before-eq3.edit w.point.result
            c.loop-before.invariant.lines w.if-before-eq3.true w.index.ensures w.point.ensures (w.edit-is
            ∙ w.back_to-edit.ensures))
            c.in_ok-push.ensures.items;
        state = rw w.draws-is (same_state c.args.start n _ c.loop-before.invariant.state w.if-before-eq3.true);
      }
      | else-before-eq3 w ↦ record {
        lines = more_lines c.args.start n edits _ c.if-before-eq3.edit c.loop-before.invariant.lines
            (draws_line c.args.start n c.loop-before.draws.state w.point-else-before-eq3.result c.if-before-eq3.edit
            c.loop-before.invariant.state w.if-before-eq3.false w.point-else-before-eq3.ensures.point w.edit-is)
            c.in_ok-push.ensures.items;
        state = rw w.draws-is (third_state c.args.start n c.loop-before.draws.state _ c.loop-before.invariant.state
            w.if-before-eq3.false w.point-else-before-eq3.ensures.state);
      }
    ]
