use Rattle.std.proofs.Common.{subst, sym, length}
use Rattle.edit_history.specs.Histories.{replay}
use Rattle.cell_store.specs.Gathered.{AreGatheredFrom}
use Rattle.cell_store.proofs.Gathering.{complex_gathered, history_gathered}
use Rattle.cell_store.proofs.MeshLaws.{shows_of}
use Rattle.cell_store.proofs.ShareLaws.{sound_of}
use Rattle.cell_store.proofs.mesh.Mesh.into_parts.Goals as goal

pub returns-clause-history : goal.returns-clause-history
returns-clause-history c =
    history_gathered c.into_hold.result c.args.self.history c.in_ok-log.log.items
    c.in_order.result.items c.in_ok-log.ensures.whole c.into_hold.ensures.stands
    c.in_ok-log.ensures.entries c.in_order.ensures.same c.in_order.ensures.order

pub returns-clause-cells : goal.returns-clause-cells
returns-clause-cells c =
    let hold = c.into_hold.result in
    complex_gathered hold (replay c.args.self.history) c.in_ok-cells.cells.items c.cells_in_order.result.items
    c.in_ok-log.ensures.whole (shows_of c.args.self hold c.into_hold.ensures)
    (subst (AreGatheredFrom hold (length hold.places)) (sym c.in_ok-cells.ensures) c.in_ok-log.ensures.lists)
    c.cells_in_order.ensures.order c.cells_in_order.ensures.cells

pub returns-clause-sound : goal.returns-clause-sound
returns-clause-sound c = sound_of c.into_hold.result c.args.self.history c.into_hold.ensures.stands

pub returns-in_err-log-clause-sound : goal.returns-in_err-log-clause-sound
returns-in_err-log-clause-sound c = sound_of c.into_hold.result c.args.self.history c.into_hold.ensures.stands

pub returns-in_err-cells-clause-sound : goal.returns-in_err-cells-clause-sound
returns-in_err-cells-clause-sound c = sound_of c.into_hold.result c.args.self.history c.into_hold.ensures.stands
