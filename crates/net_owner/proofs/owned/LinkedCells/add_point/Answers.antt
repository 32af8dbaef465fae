use Rattle.std.proofs.Common.{sym, subst}
use Rattle.net_digs.specs.Linked.{AreCellsLacking, LinkedView}
use Rattle.cell_slots.specs.Nets.{cells_of_slots}
use Rattle.cell_net.proofs.Cited.{whole_within}
use Rattle.net_owner.proofs.owned.LinkedCells.add_point.Goals as goal

pub arrived-requires-clause-new : goal.arrived-requires-clause-new
arrived-requires-clause-new c =
    let r = subst (λ (v : LinkedView). AreCellsLacking c.args.p v.cells) (sym c.self.view_is) c.requires in
    (whole_within r.0 (cells_of_slots c.self.inside.net) r.1, r.2)
