use Rattle.std.specs.Prelude.{IfSome, MatchOption, None, Option, Some}
use Rattle.std.proofs.Common.{◌++◌, List, subst}
use Rattle.point_order.specs.declared.cell.Cell.{Cell}
use Rattle.hole_laws.specs.Others.{HaveNoOther, IsOtherOf}
use Rattle.cell_slots.specs.Nets.{cells_of_slots}
use Rattle.cell_net.proofs.Taking.{other_gone}
use Rattle.cell_net.proofs.Standing.{other_there}
use Rattle.cell_net.proofs.Taking.{other_left}
use Rattle.cell_net.proofs.net.Net.behind_here.Goals as goal

pub returns-in-Some : goal.returns-in-Some
returns-in-Some c =
    other_left (cells_of_slots c.args.self.now) c.args.gone.now c.args.spot.now c.args.facet.now c.cell_in.result
    (other_there c.args.self.now c.args.spot.now c.args.facet.now c.in-Some.half_facet.place c.cell_in.result
    c.in-Some.ensures c.cell_in.ensures)

pub returns : goal.returns
returns c =
    other_gone c.gone_across.result (cells_of_slots c.args.self.now) c.args.gone.now c.args.spot.now c.args.facet.now
    (subst (λ (q : Cell). MatchOption c.gone_across.result (HaveNoOther c.args.gone.now q c.args.facet.now)
    (λ other. IsOtherOf c.args.gone.now q c.args.facet.now other)) c.cell.ensures c.gone_across.ensures)
