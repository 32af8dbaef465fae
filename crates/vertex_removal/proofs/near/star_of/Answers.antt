use Rattle.std.proofs.Common.{◌≡◌, arith}
use Rattle.std.proofs.lemmas.Grind.{common_steps}
use Rattle.cell_store.specs.Stars.{cells_around}
use Rattle.vertex_removal.proofs.Star.{star_is}
use Rattle.vertex_removal.proofs.near.star_of.Goals as goal

pub returns : goal.returns
returns c h st =
    let all : c.loop-cell.star.items ≡ cells_around c.cells_around-cell-items.result =
    grind (
      arith,
      common_steps,
      c.loop-cell.invariant,
      c.in-None.ensures.steps,
      c.into_iter-cell-iterator.ensures,
    ) in
    star_is h c.args.v (cells_around c.cells_around-cell-items.result) c.loop-cell.star.items
    (c.cells_around-cell-items.ensures.in_complex h st) all
