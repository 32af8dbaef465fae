use Rattle.std.proofs.Common.{◌≡◌, ℕ, List, ◌∙◌}
use Rattle.point_order.specs.declared.cell.Cell.{Cell}
use Rattle.point_order.specs.Complex.{complex}
use Rattle.edit_history.specs.declared.history.Edit.TheVariants.{Add}
use Rattle.edit_history.specs.Edits.{after}
use Rattle.edit_history.proofs.Cited.{ok_then}
use Rattle.cell_store.specs.Shares.{Shows}
use Rattle.claim_rule.specs.Trials.{cells_beside, near_move}
use Rattle.claim_rule.proofs.Trials.{near_unless}
use Rattle.claim_rule.proofs.trial.cells_near_move.Goals as goal

pub returns-in_default : goal.returns-in_default
returns-in_default c =
    let beside : List ℕ → List Cell = λ s. cells_beside c.args.a c.args.all.now (complex (after s (Add c.args.b))) in
    ok_then (λ list. (s : List ℕ) → Shows c.args.hold.now s → list.items ≡ beside s)
    (λ list. (s : List ℕ) → Shows c.args.hold.now s → list.items ≡ near_move c.args.reply (beside s)) c.beside.result
    (λ list f s sh. f s sh ∙ near_unless c.args.reply (beside s) c.in_default.not-Missing c.in_default.not-Occupied)
    c.beside.ensures
