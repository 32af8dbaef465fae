use Rattle.cell_stars.proofs.WriteLaws.{are_vertices}
use Rattle.cell_stars.proofs.matched.vertices_of.Goals as goal

pub returns-clause-vertices : goal.returns-clause-vertices
returns-clause-vertices c =
    are_vertices c.args.gone.now c.args.fresh.now c.in_ok-list.list.items c.add_vertices.new.list.items
    c.add_vertices-2.new.list.items c.points_in_order.result.items
    c.in_ok-list.ensures.items c.in_ok-add_vertices.ensures c.in_ok-add_vertices-2.ensures
    (λ p. ((c.points_in_order.ensures.points p).1, (c.points_in_order.ensures.points p).0))
