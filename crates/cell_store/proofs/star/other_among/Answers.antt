use Rattle.std.specs.Prelude.{◌≡◌, [], ◌∷◌}
use Rattle.list_laws.proofs.Cited.{at_none, not_both}
use Rattle.cell_stars.specs.Stars.{cells_around}
use Rattle.cell_store.proofs.StarLaws.{all_come, passed_cell, none_left, other_found}
use Rattle.cell_store.proofs.star.other_among.Goals as goal
use Rattle.cell_store.proofs.star.other_among.Goals.{else-is_on-via-then-is_on+else-not-is_same}
use Rattle.cell_store.proofs.star.other_among.Goals.{else-is_on-via-else-is_on}

pub loop-c-init : goal.loop-c-init
loop-c-init c = all_come c.args.cell.now c.args.facet.now (cells_around c.args.around)

pub loop-c-preserved : goal.loop-c-preserved
loop-c-preserved c =
    passed_cell c.args.cell.now c.args.facet.now (cells_around c.args.around) (cells_around c.loop-c.around)
    (cells_around c.next.new.self) c.in-Some.c.now c.in-Some.ensures.steps
    (elim c.else-is_on.branch [
      | else-is_on-via-then-is_on+else-not-is_same w ↦ λ h n. n (w.is_same.ensures.0 w.if-not-is_same.false)
      | else-is_on-via-else-is_on w ↦ λ h n. not_both c.is_on.result (c.is_on.ensures.1 h) w.if-is_on.false
    ]) c.loop-c.invariant

pub returns-then-not-is_same : goal.returns-then-not-is_same
returns-then-not-is_same c =
    other_found c.args.cell.now c.args.facet.now (cells_around c.args.around) (cells_around c.loop-c.around)
    (cells_around c.next.new.self) c.in-Some.c.now c.in-Some.ensures.steps
    (c.is_on.ensures.0 c.if-is_on.true) (λ e. not_both c.is_same.result (c.is_same.ensures.1 e)
    c.if-not-is_same.true) c.loop-c.invariant

pub returns : goal.returns
returns c = none_left c.args.cell.now c.args.facet.now (cells_around c.args.around) (cells_around c.loop-c.around)
    (at_none c.next.result (cells_around c.loop-c.around ≡ [] × cells_around c.next.new.self ≡ [])
    (λ x. cells_around c.loop-c.around ≡ x.now ∷ cells_around c.next.new.self) c.in_default.not-Some
    c.next.ensures.steps).0 c.loop-c.invariant
