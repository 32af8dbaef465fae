use Rattle.std.proofs.Common.{ap, sym, ◌∙◌}
use Rattle.point_order.specs.Subsets.{subsets}
use Rattle.point_order.proofs.Places.{four_of}
use Rattle.point_order.proofs.cell.Quad.pairs.Goals as goal

pub returns : goal.returns
returns c =
    let four = four_of c.self.inside.points c.self.told c.self.invariant c.index-self-0.result c.index-self-1.result
    c.index-self-2.result c.index-self-3.result in
    sym (ap (subsets 2) (sym c.self.view_is ∙ four.is))
