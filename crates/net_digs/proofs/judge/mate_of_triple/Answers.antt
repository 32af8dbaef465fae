use Rattle.list_laws.proofs.Cited.{in_left}
use Rattle.point_order.specs.declared.cell.Cell.TheVariants.{Open}
use Rattle.point_order.specs.declared.cell.Facet.TheVariants.{Three}
use Rattle.cell_slots.specs.Nets.{cells_of_slots}
use Rattle.cell_net.proofs.Cited.{other_beside, other_there, whole_other, within_listed}
use Rattle.hole_laws.proofs.Cited.{triple_on, mate_against, some_against}
use Rattle.net_digs.proofs.judge.mate_of_triple.Goals as goal

pub across-requires : goal.across-requires
across-requires c e =
    let w = c.requires.cells in
    let l = cells_of_slots c.args.net.now in
    let t = c.args.tri.now in
    rw (c.new-here.ensures, c.of.ensures, c.of-facet.ensures) (whole_other c.args.reach l w (Open t) (Three t)
    c.requires.among (triple_on w.set w.cells_of.solid.set t (within_listed c.args.reach l w (Open t) c.requires.among))
    e)

pub cell_in-behind-requires : goal.cell_in-behind-requires
cell_in-behind-requires c = (c.in_ok-half_facet.ensures.other, c.in_ok-half_facet.ensures.at)

pub unreachable-requires : goal.unreachable-requires
unreachable-requires c =
    let w = c.requires.cells in
    let l = cells_of_slots c.args.net.now in
    let t = c.args.tri.now in
    let behind = c.cell_in-behind.result in
    let d = rw (c.new-here.ensures, c.of.ensures, c.of-facet.ensures) at c.in_ok-half_facet.ensures in
    let o = other_there c.args.net.now (Open t) (Three t) c.in_ok-half_facet.half_facet.place behind d
    c.cell_in-behind.ensures in
    some_against w.set w.cells_of.solid.set t behind (within_listed c.args.reach l w (Open t) c.requires.among)
    (other_beside w.set c.args.net.now w.others w.cells_of (Open t) (Three t) behind o)
    (rw c.to_cell.ensures at c.in-None.ensures)

pub returns : goal.returns
returns c others s k =
    let t = c.args.tri.now in
    let behind = c.cell_in-behind.result in
    let d = rw (c.new-here.ensures, c.of.ensures, c.of-facet.ensures) at c.in_ok-half_facet.ensures in
    let o = other_there c.args.net.now (Open t) (Three t) c.in_ok-half_facet.half_facet.place behind d
    c.cell_in-behind.ensures in
    mate_against s k.solid.set t behind c.in-Some.mate
    ((k.members (Open t)).0 (in_left (Open t) (cells_of_slots c.args.net.now) others c.requires.among))
    (other_beside s c.args.net.now others k (Open t) (Three t) behind o)
    (rw c.to_cell.ensures at c.in-Some.ensures)
