use Rattle.std.proofs.Common.{ap, List, ℕ, [], ◌∙◌, ◌++◌, ◌∷◌}
use Rattle.cell_stars.specs.Homes.{home_in}
use Rattle.cell_stars.proofs.AtOnce.{map_all, map_more}
use Rattle.cell_stars.proofs.homes.Homes.of.Goals as goal

pub loop-cell-preserved : goal.loop-cell-preserved
loop-cell-preserved c =
    map_more (home_in c.args.grid) c.args.cells.now c.loop-cell.cell-index c.cell-item.result c.loop-cell.list.items
    c.push.new.self.items c.loop-cell-test.true c.cell-item.is
    (c.in_ok-push.ensures.items ∙ ap (λ (h : List ℕ). c.loop-cell.list.items ++ h ∷ []) c.home_of.ensures)
    c.loop-cell.invariant

pub returns : goal.returns
returns c =
    map_all (home_in c.args.grid) c.args.cells.now c.loop-cell.cell-index c.loop-cell.list.items c.loop-cell-test.false
    c.loop-cell.invariant
