use Rattle.std.proofs.Common.{◌++◌, ◌+◌, ◌-◌, ◌≤◌, ◌∙◌, arith, eqb-true, length, map, sym, subst, take, ℕ}
use Rattle.point_order.specs.declared.cell.Cell.TheVariants.{Full, Open}
use Rattle.cloud_cells.proofs.Found.{AreFound, all_found, cell_slot, free_slot, none_found}
use Rattle.cloud_cells.proofs.listed.are_all.Goals.{in-Some+else-not-is_listed, in_default}
use Rattle.cloud_cells.proofs.listed.are_all.Goals as goal

pub overflow_add-count : goal.overflow_add-count
overflow_add-count c =
    omega (arith, c.loop-slot.invariant.1, c.loop-slot-test.true, c.loop-slot.auto.slot-index-end)

pub loop-slot-init : goal.loop-slot-init
loop-slot-init c = (none_found (map Full c.args.cells.now ++ map Open c.args.hull.now), omega arith)

-- one slot more was looked at
pub loop-slot-preserved : goal.loop-slot-preserved
loop-slot-preserved c =
    let l = map Full c.args.cells.now ++ map Open c.args.hull.now in
    let slots = c.args.slots.now in
    let i = c.loop-slot.slot-index in
    let n = c.loop-slot.count in
    let few = c.loop-slot.invariant.1 in
    elim c.match-cell.branch [
      | in-Some+else-not-is_listed w ↦ subst (λ (k : ℕ). AreFound l (take (i + 1) slots) k × (k ≤ i + 1))
          (sym w.count-is) (
            cell_slot l slots i n c.slot-item.result c.loop-slot-test.true c.slot-item.is c.loop-slot.invariant.0
                w.in-Some.cell (sym c.cell.ensures ∙ w.in-Some.is) (w.is_listed.ensures w.if-not-is_listed.false),
            omega (arith, few),
          )
      | in_default w ↦ subst (λ (k : ℕ). AreFound l (take (i + 1) slots) k × (k ≤ i + 1)) (sym w.count-is) (
        free_slot l slots i n c.slot-item.result c.loop-slot-test.true c.slot-item.is c.loop-slot.invariant.0
            (sym c.cell.ensures ∙ w.in_default.is),
        omega (arith, few),
      )
    ]

pub returns-then-len-count : goal.returns-then-len-count
returns-then-len-count c t =
    let f = all_found (map Full c.args.cells.now ++ map Open c.args.hull.now) c.args.slots.now c.loop-slot.slot-index
    c.loop-slot.count c.loop-slot-test.false c.loop-slot.invariant.0 in
    let e = eqb-true (c.loop-slot.count - c.len-then-len-count.result) (length c.args.hull.now) t in
    record {
      among = f.among;
      count = (let k = f.count in let b = c.if-len-count.true in let m = c.len.ensures in
          let n = c.len-then-len-count.ensures in omega (arith, k, b, e, m, n));
    }
