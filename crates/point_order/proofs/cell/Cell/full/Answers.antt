use Rattle.std.proofs.Common.{ap, [], ◌∷◌}
use Rattle.point_order.proofs.SetLaws.{ascending_is}
use Rattle.point_order.specs.declared.cell.Cell.TheVariants.{Full}
use Rattle.point_order.proofs.cell.Cell.full.Goals as goal

pub returns : goal.returns
returns c =
    let e = c.ordered_four.ensures in ap Full (ascending_is c.ordered_four.result
    (c.args.a ∷ c.args.b ∷ c.args.c ∷ c.args.d ∷ []) e.order (λ p. (e.points p).0) (λ p. (e.points p).1))
