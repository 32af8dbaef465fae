use Rattle.std.proofs.Common.{◌∙◌, ap, subst, sym}
use Rattle.point_order.specs.Complex.{complex}
use Rattle.point_order.specs.Sets.{IsAscending}
use Rattle.point_order.specs.Solid.{is_solid}
use Rattle.del_laws.specs.Keys.{AreKeys}
use Rattle.edit_history.proofs.Cited.{ok_then}
use Rattle.linked_mesh.proofs.set.LinkedSet.cells.Goals as goal

pub returns-clause-cells : goal.returns-clause-cells
returns-clause-cells c =
    let s = c.self.inside.points.keys in
    ok_then _ _ c.listed.result
    (λ cells f. f s c.self.invariant.solid.set.ascending c.self.invariant ∙ ap complex c.self.view_is)
    c.listed.ensures

pub returns-clause-ascending : goal.returns-clause-ascending
returns-clause-ascending c = subst IsAscending c.self.view_is c.self.invariant.solid.set.ascending

pub returns-clause-solid : goal.returns-clause-solid
returns-clause-solid c = ap is_solid (sym c.self.view_is) ∙ c.self.invariant.solid.solid

pub returns-clause-keys : goal.returns-clause-keys
returns-clause-keys c = subst AreKeys c.self.view_is c.self.invariant.solid.set.keys
