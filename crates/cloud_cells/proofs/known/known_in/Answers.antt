use Rattle.std.proofs.Common.{◌∙◌, sym, subst}
use Rattle.point_order.specs.declared.cell.Cell.TheVariants.{Full, Open}
use Rattle.cloud_cells.specs.Known.{AreMarkedAmong}
use Rattle.cell_slots.specs.Nets.{cells_of_slots}
use Rattle.cell_slots.proofs.Cited.{slot_in}
use Rattle.cloud_cells.proofs.known.known_in.Goals.{in-Some, in_default}
use Rattle.cloud_cells.proofs.known.known_in.Goals as goal

-- one slot more was looked at
pub loop-slot-preserved : goal.loop-slot-preserved
loop-slot-preserved c =
    let made = cells_of_slots c.args.slots.now in
    let known = c.loop-slot.invariant in
    elim c.match-cell.branch [
      | in-Some w ↦
          let there = slot_in c.args.slots.now c.loop-slot.slot-index c.slot-item.result w.in-Some.cell
          c.loop-slot-test.true c.slot-item.is (sym c.cell.ensures ∙ w.in-Some.is) in (
            subst (λ v. AreMarkedAmong made Full c.args.cells.now v.items) (sym w.quads-is)
                (w.note_cell.ensures made there known.0),
            subst (λ v. AreMarkedAmong made Open c.args.hull.now v.items) (sym w.triples-is)
                (w.note_triple.ensures made there known.1),
          )
      | in_default w ↦ (
        subst (λ v. AreMarkedAmong made Full c.args.cells.now v.items) (sym w.quads-is) known.0,
        subst (λ v. AreMarkedAmong made Open c.args.hull.now v.items) (sym w.triples-is) known.1,
      )
    ]
