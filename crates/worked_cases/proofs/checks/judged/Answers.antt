use Rattle.mesh_check.proofs.Cited.{cells_listed}
use Rattle.worked_cases.proofs.checks.judged.Goals as goal

pub check-requires-clause-points : goal.check-requires-clause-points
check-requires-clause-points c = rw c.deref.ensures.value c.requires.ascending

pub check-requires-clause-keys : goal.check-requires-clause-keys
check-requires-clause-keys c = rw c.deref.ensures.value (record { below = c.requires.keys })

pub check-requires-clause-cells : goal.check-requires-clause-cells
check-requires-clause-cells c =
    let m = c.args.mesh.now in
    let o = c.requires in
    rw (c.deref.ensures.value, c.deref-2.ensures.value, c.deref-3.ensures.value)
    (cells_listed m.points.items m.cells.items m.hull.items o.cells.sorted o.hull.sorted o.cells.ascending
    o.hull.ascending o.cells.inside o.hull.inside)
