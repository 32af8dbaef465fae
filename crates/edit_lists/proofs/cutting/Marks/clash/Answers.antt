use Rattle.std.proofs.Common.{sym, ◌∙◌}
use Rattle.edit_lists.proofs.Cuts.{move_clash}
use Rattle.edit_lists.proofs.cutting.Marks.clash.Goals as goal

pub returns-then-moves : goal.returns-then-moves
returns-then-moves c = λ n lines tag some dealt are.
    let seen = c.in_ok-see.ensures n lines some dealt are in (
      move_clash lines tag c.args.edit.now c.see.new.self c.has_point.result (sym c.moves.ensures ∙ c.if-moves.true)
          seen c.has_point.ensures,
      seen.are_marks,
    )
