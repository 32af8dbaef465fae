use Rattle.std.proofs.Common.{ap, length, arith}
use Rattle.alpha_complex.proofs.SlotLaws.{cells_as_seen}
use Rattle.alpha_complex.proofs.shape.Shape.cell.Goals as goal

pub cell_at-requires-clause-cells : goal.cell_at-requires-clause-cells
cell_at-requires-clause-cells c =
    let n = cells_as_seen c.self.inside c.args.self.now c.self.invariant c.self.view_is in
    let m = c.self.invariant.cells in
    let k = ap length c.cells.ensures in
    omega (arith, c.requires, n, m, k)

pub cell_at-requires-clause-marks : goal.cell_at-requires-clause-marks
cell_at-requires-clause-marks c =
    let n = cells_as_seen c.self.inside c.args.self.now c.self.invariant c.self.view_is in
    let k = ap length c.deref.ensures.value in
    omega (arith, c.requires, n, k)
