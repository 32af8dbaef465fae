use Rattle.std.proofs.Common.{ℕ, ◌<◌, arith, subst}
use Rattle.mesh_rows.specs.Across.{AreAcross, full_at}
use Rattle.mesh_rows.proofs.FullFirst.{fewer_full, full_at_number}
use Rattle.mesh_rows.proofs.RowLaws.{push_each}
use Rattle.mesh_rows.proofs.across.neighbours.Goals as goal

pub row_at-requires-clause-listed : goal.row_at-requires-clause-listed
row_at-requires-clause-listed c =
    let few = fewer_full c.args.cells.now in
    let count = c.requires.count in
    let test = c.loop-n-test.true in
    omega (arith, few, count, test)

pub row_at-requires-clause-cell : goal.row_at-requires-clause-cell
row_at-requires-clause-cell c =
    full_at_number c.args.cells.now c.requires.cells c.loop-n.n
    (subst (λ (k : ℕ). c.loop-n.n < k) c.requires.count c.loop-n-test.true)

pub loop-n-preserved : goal.loop-n-preserved
loop-n-preserved c =
    push_each (λ i r. AreAcross c.args.cells.now i (full_at c.args.cells.now i) r) c.loop-n.rows.items
    c.push.new.self.items c.row_at.result c.loop-n.n c.in_ok-push.ensures.items c.loop-n.invariant c.row_at.ensures
