use Rattle.std.specs.Prelude.{◌≡◌, false}
use Rattle.std.proofs.Common.{sym, ◌∙◌, subst}
use Rattle.point_order.specs.declared.cell.Cell.{Cell}
use Rattle.point_order.specs.Facets.{points_of}
use Rattle.point_order.specs.Sets.{IsIn}
use Rattle.del_laws.specs.Nearest.{comes_before}
use Rattle.cell_slots.specs.Nets.{cells_of_slots}
use Rattle.net_owner.proofs.Nearing.{point_of_cell}
use Rattle.cell_slots.proofs.Cited.{live_in}
use Rattle.net_owner.proofs.looks.nearest_from.Goals as goal

pub look-requires-clause-among : goal.look-requires-clause-among
look-requires-clause-among c =
    live_in c.args.net.now c.loop.slot c.in_ok-first.first (sym c.spot_in.ensures ∙ c.in_ok-first.was)

pub look-requires-clause-has : goal.look-requires-clause-has
look-requires-clause-has c =
    subst (λ (q : Cell). IsIn c.at-aim.result.point (points_of q)) c.cell.ensures c.at-aim.ensures.point

-- the walk stands at a point of a cell
pub returns-in-Ok-clause-among : goal.returns-in-Ok-clause-among
returns-in-Ok-clause-among c s k =
    point_of_cell s (cells_of_slots c.args.net.now) k c.in_ok-first.first
    (live_in c.args.net.now c.loop.slot c.in_ok-first.first (sym c.spot_in.ensures ∙ c.in_ok-first.was))
    c.at-aim.result.point
    (subst (λ (q : Cell). IsIn c.at-aim.result.point (points_of q)) c.cell.ensures c.at-aim.ensures.point)

pub returns-in-Ok-clause-first : goal.returns-in-Ok-clause-first
returns-in-Ok-clause-first c s k y i =
    subst (λ q. comes_before q y c.at-aim.result.point ≡ false) c.at-aim.ensures.place (c.in-Ok.ensures s k y i)
