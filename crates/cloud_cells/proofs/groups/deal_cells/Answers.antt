use Rattle.std.proofs.Common.{◌∙◌, ◌++◌, arith}
use Rattle.std.proofs.lemmas.Option.{MatchOption-at_some}
use Rattle.cloud_cells.specs.Groups.{cells_of_groups}
use Rattle.cell_slots.specs.Nets.{cells_of_slots}
use Rattle.cell_slots.proofs.Cited.{come_over, moved_last, moved_on}
use Rattle.cloud_cells.proofs.groups.deal_cells.Goals as goal

pub number_in-g-requires : goal.number_in-g-requires
number_in-g-requires c =
    let b = c.requires in
    let d = c.loop-page.invariant.2 in
    rw c.deref.ensures.value (omega (arith, b, d))

pub deal_page-requires : goal.deal_page-requires
deal_page-requires c = record {
  group = rw c.deref.ensures.value at c.number_in-g.ensures;
  page = (MatchOption-at_some _ _ c.in-Some.page c.in-Some.is c.in_ok-page.ensures).0;
}

pub loop-page-preserved : goal.loop-page-preserved
loop-page-preserved c =
    let i = c.loop-page.invariant in
    let all = cells_of_groups c.args.groups.now.items ++ cells_of_slots c.args.net.now in
    let now = cells_of_groups c.loop-page.groups.items in
    let front = cells_of_slots c.remove.new.self in
    let last = cells_of_slots c.in-Some.page in
    let net = cells_of_slots c.loop-page.net in
    let d = c.in_ok-deal_page.ensures in (
      come_over all now (cells_of_groups c.deal_page.new.groups.items) front last
          (moved_on all (now ++ net) (now ++ (front ++ last)) i.0
          (moved_last now net (front ++ last)
          (MatchOption-at_some _ _ c.in-Some.page c.in-Some.is c.in_ok-page.ensures).2))
          d.cells,
      d.points ∙ i.1,
      d.len ∙ i.2,
    )
