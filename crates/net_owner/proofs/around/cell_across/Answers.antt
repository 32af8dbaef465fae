use Rattle.std.specs.Prelude.{◌≡◌}
use Rattle.std.proofs.Common.{subst, sym, ◌∙◌}
use Rattle.point_order.specs.declared.cell.Cell.{Cell}
use Rattle.hole_laws.specs.Others.{IsOtherOf}
use Rattle.cell_slots.specs.Nets.{IsOtherOn, cells_of_slots}
use Rattle.cell_slots.specs.declared.reach.Reach.TheVariants.{Part, Whole}
use Rattle.cell_slots.proofs.Cited.{live_in}
use Rattle.cell_net.proofs.Cited.{other_there}
use Rattle.net_owner.proofs.around.cell_across.Goals as goal

pub returns-then-is_across : goal.returns-then-is_across
returns-then-is_across c =
    let x = c.in-Some.other in
    let o = subst (λ (q : Cell). IsOtherOn q c.args.facet.now x) c.cell-in-Some.ensures
    (subst (λ (q : Cell). IsOtherOn c.cell-in-Some.result.now c.args.facet.now q) c.cell.ensures
    (c.is_across.ensures.0 c.if-is_across.true)) in
    record {
      listed = live_in c.args.net.now c.args.slot x (sym c.spot_in.ensures ∙ c.in-Some.is);
      has = o.0;
      differs = o.1;
    }

pub unreachable-requires : goal.unreachable-requires
unreachable-requires c = let e : Whole ≡ Part = c.in-None.ensures in cc e

pub cell_in-requires : goal.cell_in-requires
cell_in-requires c = (c.in-Some-across.ensures.other, c.in-Some-across.ensures.at)

pub returns : goal.returns
returns c =
    subst (λ (q : Cell). IsOtherOf (cells_of_slots c.args.net.now) c.args.spot.now c.args.facet.now q)
    (sym c.new.ensures)
    (other_there c.args.net.now c.args.spot.now c.args.facet.now c.in-Some-across.half_facet.place c.cell_in.result
    c.in-Some-across.ensures c.cell_in.ensures)
