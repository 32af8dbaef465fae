use Rattle.std.specs.Prelude.{◌≡◌, ◌∷◌, []}
use Rattle.std.proofs.Common.{sym, ◌∙◌}
use Rattle.list_laws.proofs.Cited.{among_from, among_true, not_both}
use Rattle.point_order.specs.Facets.{points_on}
use Rattle.cell_slots.specs.Nets.{cells_of_slots}
use Rattle.net_digs.proofs.Marked.{mark_below, marked_gone}
use Rattle.cell_slots.proofs.Cited.{first_distinct}
use Rattle.net_digs.proofs.StarSearch.{crossed_apart, crossed_before, crossed_now}
use Rattle.cell_net.proofs.Cited.{other_beside, other_there, whole_other}
use Rattle.net_digs.proofs.star.cross_around.Goals as goal

pub returns-then-not-has-clause-crossed : goal.returns-then-not-has-clause-crossed
returns-then-not-has-clause-crossed c others s k crossed t =
    crossed_apart s c.args.v crossed c.args.facet.now c.args.star.now.gone.items t
    (λ j. not_both c.has.result (c.has.ensures ∙ among_true c.args.v (points_on c.args.facet.now) j)
    c.if-not-has.true)

pub across-requires : goal.across-requires
across-requires c e =
    whole_other c.args.reach (cells_of_slots c.args.net.now) c.requires.within c.args.spot.now c.args.facet.now
    (c.requires.marked.picked.among c.args.spot.now c.requires.among) c.requires.facet e

pub cell_in-other-requires : goal.cell_in-other-requires
cell_in-other-requires c = (c.in-Some.ensures.other, c.in-Some.ensures.at)

-- the cell was found before
pub returns-then-is_gone-clause-crossed : goal.returns-then-is_gone-clause-crossed
returns-then-is_gone-clause-crossed c others s k crossed t =
    let d = c.in-Some.ensures in
    let o = other_beside s c.args.net.now others k c.args.spot.now c.args.facet.now d.other d.is in
    crossed_before s c.args.v crossed c.args.facet.now c.args.star.now.gone.items t k.solid.set c.args.spot.now d.other
    c.requires.among c.requires.facet o
    (c.requires.marked.gone c.in-Some.half_facet.place d.other d.at (c.is_gone.ensures.0 c.if-is_gone.true))

pub find-requires : goal.find-requires
find-requires c =
    mark_below (λ q. Unit {0}) c.args.net.now c.args.marks.now c.args.star.now.gone.items c.requires.marked
    c.in-Some.half_facet.place c.cell_in-other.result c.cell_in-other.ensures

-- the cell is found now
pub returns-clause-more : goal.returns-clause-more
returns-clause-more c = (c.cell_in-other.result ∷ [], c.in_ok-find.ensures.found)

pub returns-clause-marked : goal.returns-clause-marked
returns-clause-marked c =
    let w = c.requires.within in
    rw (c.in_ok-find.ensures.marks, c.in_ok-find.ensures.found)
    (marked_gone (λ q. Unit {0}) c.args.net.now c.args.marks.now c.args.star.now.gone.items
    (first_distinct (cells_of_slots c.args.net.now) w.others w.cells_of.once)
    c.requires.marked c.in-Some.half_facet.place c.cell_in-other.result c.cell_in-other.ensures
    (λ z. not_both c.is_gone.result (c.is_gone.ensures.1 z) c.if-is_gone.false))

pub returns-clause-crossed : goal.returns-clause-crossed
returns-clause-crossed c others s k crossed t =
    let x = c.cell_in-other.result in
    let o = other_beside s c.args.net.now others k c.args.spot.now c.args.facet.now x
    (other_there c.args.net.now c.args.spot.now c.args.facet.now c.in-Some.half_facet.place x c.in-Some.ensures
    c.cell_in-other.ensures) in
    rw c.in_ok-find.ensures.found
    (crossed_now s c.args.v crossed c.args.facet.now c.args.star.now.gone.items t k.solid.set c.args.spot.now x
    c.requires.among c.requires.facet o
    (among_from c.args.v (points_on c.args.facet.now) (sym c.has.ensures ∙ c.if-not-has.false)))
