use Rattle.mesh_rows.proofs.Others.{others_at, sides_listed, sides_told}
use Rattle.mesh_rows.proofs.across.row.Goals as goal

pub across-requires-clause-other : goal.across-requires-clause-other
across-requires-clause-other c =
    others_at c.args.cells.now c.args.n c.requires.cells c.requires.listed c.args.quad.now _ c.requires.cell
    (sides_listed c.args.cells.now c.args.n c.args.quad.now _ _ _ _ c.sides-a.ensures).0

pub across-requires-2-clause-other : goal.across-requires-2-clause-other
across-requires-2-clause-other c =
    others_at c.args.cells.now c.args.n c.requires.cells c.requires.listed c.args.quad.now _ c.requires.cell
    (sides_listed c.args.cells.now c.args.n c.args.quad.now _ _ _ _ c.sides-a.ensures).1

pub across-requires-3-clause-other : goal.across-requires-3-clause-other
across-requires-3-clause-other c =
    others_at c.args.cells.now c.args.n c.requires.cells c.requires.listed c.args.quad.now _ c.requires.cell
    (sides_listed c.args.cells.now c.args.n c.args.quad.now _ _ _ _ c.sides-a.ensures).2

pub across-requires-4-clause-other : goal.across-requires-4-clause-other
across-requires-4-clause-other c =
    others_at c.args.cells.now c.args.n c.requires.cells c.requires.listed c.args.quad.now _ c.requires.cell
    (sides_listed c.args.cells.now c.args.n c.args.quad.now _ _ _ _ c.sides-a.ensures).3

pub returns : goal.returns
returns c =
    sides_told c.args.cells.now c.args.n c.args.quad.now _ _ _ _ _ c.sides-a.ensures c.across.ensures c.across-2.ensures
    c.across-3.ensures c.across-4.ensures
