use Rattle.std.proofs.Common.{◌≡◌, ℕ, List, sym, ◌∙◌}
use Rattle.std.specs.List.{filter}
use Rattle.point_order.specs.declared.cell.Cell.{Cell}
use Rattle.point_order.specs.Complex.{complex}
use Rattle.point_order.specs.Facets.{points_of}
use Rattle.point_order.specs.Sets.{is_among}
use Rattle.edit_history.specs.declared.history.Edit.TheVariants.{Add}
use Rattle.edit_history.specs.Edits.{after, reply_to}
use Rattle.edit_history.proofs.Cited.{ok_then}
use Rattle.cell_store.specs.Shares.{Shows}
use Rattle.claim_rule.specs.Trials.{cells_beside, near_cells, near_move}
use Rattle.claim_rule.proofs.trial.near.Goals as goal

pub returns-in-Add : goal.returns-in-Add
returns-in-Add c =
    ok_then (λ list. list.items ≡ c.args.gone.now)
    (λ list. (s : List ℕ) → Shows c.args.hold.now s → c.args.reply ≡ reply_to s c.args.edit →
    list.items ≡ near_cells s c.args.edit c.args.all.now c.args.gone.now) c.from_slice.result
    (λ list e s sh r. e ∙ (λ i. near_cells s (sym c.in-Add.is i) c.args.all.now c.args.gone.now))
    c.from_slice.ensures.items

pub returns-in-Take : goal.returns-in-Take
returns-in-Take c =
    ok_then (λ list. list.items ≡ filter (λ d. is_among c.in-Take.v (points_of d)) c.args.all.now)
    (λ list. (s : List ℕ) → Shows c.args.hold.now s → c.args.reply ≡ reply_to s c.args.edit →
    list.items ≡ near_cells s c.args.edit c.args.all.now c.args.gone.now) c.cells_with.result
    (λ list e s sh r. e ∙ (λ i. near_cells s (sym c.in-Take.is i) c.args.all.now c.args.gone.now)) c.cells_with.ensures

pub returns-in-Move : goal.returns-in-Move
returns-in-Move c =
    let beside : List ℕ → List Cell =
    λ s. cells_beside c.in-Move.a c.args.all.now (complex (after s (Add c.in-Move.b))) in
    ok_then (λ list. (s : List ℕ) → Shows c.args.hold.now s → list.items ≡ near_move c.args.reply (beside s))
    (λ list. (s : List ℕ) → Shows c.args.hold.now s → c.args.reply ≡ reply_to s c.args.edit →
    list.items ≡ near_cells s c.args.edit c.args.all.now c.args.gone.now) c.cells_near_move.result
    (λ list f s sh r. f s sh ∙ (λ i. near_move (r i) (beside s))
    ∙ (λ i. near_move (reply_to s (c.in-Move.is i)) (beside s))
    ∙ (λ i. near_cells s (sym c.in-Move.is i) c.args.all.now c.args.gone.now)) c.cells_near_move.ensures
