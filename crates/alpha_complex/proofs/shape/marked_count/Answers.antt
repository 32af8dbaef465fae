use Rattle.std.proofs.Common.{◌∙◌, ◌≤◌, ◌<◌, ap, subst, sym}
use Rattle.std.specs.Prelude.{None, is_some}
use Rattle.alpha_complex.specs.Slots.{cell_slots_of}
use Rattle.alpha_complex.proofs.SlotLaws.{cell_slot_count, count_of_all, count_on, count_past}
use Rattle.alpha_complex.proofs.shape.marked_count.Goals.{then-is_some, else-is_some}
use Rattle.alpha_complex.proofs.shape.marked_count.Goals as goal

pub cell_at-requires-clause-marks : goal.cell_at-requires-clause-marks
cell_at-requires-clause-marks c = subst (λ n. c.loop-index.index < n) (sym c.requires) c.loop-index-test.true

pub loop-index-preserved : goal.loop-index-preserved
loop-index-preserved c =
    let slots = cell_slots_of c.args.cells.now c.args.marks.now in
    let i = c.loop-index.index in
    let within = subst (λ n. i < n) (sym (cell_slot_count c.args.cells.now c.args.marks.now c.requires))
    c.loop-index-test.true in
    let read = ap is_some (sym c.cell_at.ensures) ∙ sym c.is_some.ensures in
    elim c.if-is_some.branch [
      | then-is_some w ↦ w.count-is ∙ count_on slots i None _ within (read ∙ w.if-is_some.true) c.loop-index.invariant
      | else-is_some w ↦ w.count-is ∙ count_past slots i None _ within (read ∙ w.if-is_some.false)
          c.loop-index.invariant
    ]

pub returns : goal.returns
returns c =
    let i = c.loop-index.index in
    let many = sym (cell_slot_count c.args.cells.now c.args.marks.now c.requires) in
    count_of_all (cell_slots_of c.args.cells.now c.args.marks.now) i _ (subst (λ n. n ≤ i) many c.loop-index-test.false)
    c.loop-index.invariant
