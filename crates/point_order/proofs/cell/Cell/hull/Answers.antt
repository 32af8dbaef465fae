use Rattle.std.proofs.Common.{ap, [], ◌∷◌}
use Rattle.point_order.proofs.SetLaws.{ascending_is}
use Rattle.point_order.specs.declared.cell.Cell.TheVariants.{Open}
use Rattle.point_order.proofs.cell.Cell.hull.Goals as goal

pub returns : goal.returns
returns c =
    let e = c.ordered_three.ensures in ap Open (ascending_is c.ordered_three.result
    (c.args.a ∷ c.args.b ∷ c.args.c ∷ []) e.order (λ p. (e.points p).0) (λ p. (e.points p).1))
