use Rattle.std.proofs.Common.{sym, ◌∙◌}
use Rattle.point_order.proofs.Places.{four_of}
use Rattle.point_order.proofs.cell.Quad.corners.Goals as goal

pub returns-clause-points : goal.returns-clause-points
returns-clause-points c =
    let four = four_of c.self.inside.points c.self.told c.self.invariant c.index-self-0.result c.index-self-1.result
    c.index-self-2.result c.index-self-3.result in
    sym c.self.view_is ∙ four.is

pub returns-clause-first : goal.returns-clause-first
returns-clause-first c =
    (four_of c.self.inside.points c.self.told c.self.invariant c.index-self-0.result c.index-self-1.result
    c.index-self-2.result c.index-self-3.result).first

pub returns-clause-second : goal.returns-clause-second
returns-clause-second c =
    (four_of c.self.inside.points c.self.told c.self.invariant c.index-self-0.result c.index-self-1.result
    c.index-self-2.result c.index-self-3.result).second

pub returns-clause-third : goal.returns-clause-third
returns-clause-third c =
    (four_of c.self.inside.points c.self.told c.self.invariant c.index-self-0.result c.index-self-1.result
    c.index-self-2.result c.index-self-3.result).third
