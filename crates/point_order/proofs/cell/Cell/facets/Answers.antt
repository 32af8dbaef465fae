use Rattle.std.proofs.Common.{ap, sym, ◌∙◌}
use Rattle.point_order.specs.Facets.{facets_of, full_facets, open_facets}
use Rattle.point_order.proofs.Places.{three_of, four_of}
use Rattle.point_order.proofs.cell.Cell.facets.Goals as goal

pub returns-in-Full : goal.returns-in-Full
returns-in-Full c =
    let four = four_of c.quad.inside.points c.quad.told c.quad.invariant c.index-quad-0.result c.index-quad-1.result
    c.index-quad-2.result c.index-quad-3.result in
    sym (ap facets_of c.in-Full.is ∙ ap full_facets (sym c.quad.view_is ∙ four.is))

pub returns-in-Open : goal.returns-in-Open
returns-in-Open c =
    let three = three_of c.tri.inside.points c.tri.told c.tri.invariant c.index-tri-0.result c.index-tri-1.result
    c.index-tri-2.result in
    sym (ap facets_of c.in-Open.is ∙ ap open_facets (sym c.tri.view_is ∙ three.is))
