use Rattle.std.proofs.Common.{◌++◌, List, subst, sym}
use Rattle.std.specs.declared.option.Option.{Option}
use Rattle.point_order.specs.declared.cell.Cell.{Cell}
use Rattle.hole_laws.specs.Others.{IsOtherOf}
use Rattle.cell_slots.specs.Clouds.{HasOtherIn}
use Rattle.cell_slots.specs.Marked.{IsOtherAt}
use Rattle.cell_slots.specs.Nets.{cells_of_slots}
use Rattle.cell_net.proofs.Standing.{other_there}
use Rattle.cell_net.proofs.Taking.{other_kept, other_left, other_right}
use Rattle.cell_net.proofs.net.Net.behind.Goals as goal

pub returns-in-Some : goal.returns-in-Some
returns-in-Some c =
    other_left (cells_of_slots c.args.self.now) c.args.gone.now c.args.spot.now c.args.facet.now c.cell_in.result
    (other_there c.args.self.now c.args.spot.now c.args.facet.now c.in-Some.half_facet.place c.cell_in.result
    c.in-Some.ensures c.cell_in.ensures)

pub returns-in-Some-gone_across : goal.returns-in-Some-gone_across
returns-in-Some-gone_across c =
    let l = cells_of_slots c.args.self.now in
    let g = c.args.gone.now in
    subst (λ (q : Cell). IsOtherOf (l ++ g) q c.args.facet.now c.in-Some-gone_across.other) c.cell-cell.ensures
    (other_right l g c.cell-cell.result.now c.args.facet.now c.in-Some-gone_across.other
    c.in-Some-gone_across.ensures)

pub other_across-half_facet-requires : goal.other_across-half_facet-requires
other_across-half_facet-requires c =
    let cell = c.cell-cell.result.now in
    let h = subst (λ (q : Cell). HasOtherIn (cells_of_slots c.args.self.now ++ c.args.gone.now) q c.args.facet.now)
    (sym c.cell-cell.ensures) c.requires in
    subst (λ (l : List (Option Cell)). HasOtherIn (cells_of_slots l) cell c.args.facet.now)
    (sym c.self.view_is)
    (other_kept (cells_of_slots c.args.self.now) c.args.gone.now cell c.args.facet.now h c.in-None.ensures)

pub returns-in-None : goal.returns-in-None
returns-in-None c =
    let l = cells_of_slots c.args.self.now in
    let f = c.args.facet.now in
    let x = c.cell_in-in-None.result in
    let o = subst
    (λ (n : List (Option Cell)). IsOtherAt n c.cell-cell.result.now f c.other_across-half_facet.result.place)
    c.self.view_is c.other_across-half_facet.ensures in
    other_left l c.args.gone.now c.args.spot.now f x
    (subst (λ (q : Cell). IsOtherOf l q f x) c.cell-cell.ensures
    (other_there c.args.self.now c.cell-cell.result.now f c.other_across-half_facet.result.place x o
    c.cell_in-in-None.ensures))
