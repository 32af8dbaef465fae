use Rattle.std.proofs.Common.{ap, length, arith}
use Rattle.alpha_steps.proofs.Told.{cells_as_seen}
use Rattle.alpha_steps.proofs.steps.Thresholds.cell.Goals as goal

pub cell_step_at-requires-clause-cells : goal.cell_step_at-requires-clause-cells
cell_step_at-requires-clause-cells c =
    let n = cells_as_seen c.self.inside c.args.self.now c.self.invariant c.self.view_is in
    let m = c.self.invariant.cells in
    let k = ap length c.cells.ensures in
    omega (arith, c.requires, n, m, k)

pub cell_step_at-requires-clause-leasts : goal.cell_step_at-requires-clause-leasts
cell_step_at-requires-clause-leasts c =
    let n = cells_as_seen c.self.inside c.args.self.now c.self.invariant c.self.view_is in
    let k = ap length c.deref.ensures.value in
    omega (arith, c.requires, n, k)
