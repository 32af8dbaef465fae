use Rattle.std.proofs.Common.{ap, ◌∙◌, List, ℕ}
use Rattle.point_order.specs.declared.cell.Cell.{Cell}
use Rattle.point_order.specs.Facets.{points_of}
use Rattle.point_order.specs.Subsets.{subsets}
use Rattle.face_list.proofs.Failing.{no_value}
use Rattle.face_list.proofs.FaceLists.{items_next}
use Rattle.face_list.proofs.parts.pair_items.Goals as goal
use Rattle.face_list.proofs.parts.pair_items.Goals.{in-Full+in_ok-put-in-Full, in-Open+in_ok-put-in-Open}

pub loop-number-preserved : goal.loop-number-preserved
loop-number-preserved c =
    let parts : Cell → List (List ℕ) = λ c. subsets 2 (points_of c) in
    let n = c.loop-number.number in
    elim c.match-cells-number.branch [
      | in-Full+in_ok-put-in-Full w ↦ items_next parts c.args.cells.now n _ _ _ _ _ c.loop-number-test.true
          c.loop-number.invariant w.in-Full.is w.pairs.ensures
          (ap (λ v. v.items) w.items-is ∙ w.in_ok-put-in-Full.ensures)
      | in-Open+in_ok-put-in-Open w ↦ items_next parts c.args.cells.now n _ _ _ _ _ c.loop-number-test.true
          c.loop-number.invariant w.in-Open.is w.pairs-in-Open.ensures
          (ap (λ v. v.items) w.items-is ∙ w.in_ok-put-in-Open.ensures)
    ]

pub returns-in_err-items : goal.returns-in_err-items
returns-in_err-items c = no_value _ c.from_residual.result c.from_residual.ensures.0

pub returns-in_err-put-in-Full : goal.returns-in_err-put-in-Full
returns-in_err-put-in-Full c = no_value _ c.from_residual-in_err-put-in-Full.result
    c.from_residual-in_err-put-in-Full.ensures.0

pub returns-in_err-put-in-Open : goal.returns-in_err-put-in-Open
returns-in_err-put-in-Open c = no_value _ c.from_residual-in_err-put-in-Open.result
    c.from_residual-in_err-put-in-Open.ensures.0
