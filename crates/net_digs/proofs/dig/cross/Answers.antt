use Rattle.std.proofs.lemmas.Bool.{MatchBool-at_false, MatchBool-at_true}
use Rattle.list_laws.proofs.Cited.{not_both}
use Rattle.cell_slots.specs.Nets.{cells_of_slots}
use Rattle.cell_net.proofs.Cited.{other_beside, other_there, whole_other}
use Rattle.hole_laws.proofs.Cited.{crossed_found, crossed_goes, crossed_stays}
use Rattle.net_digs.proofs.dig.cross.Goals as goal

pub half_facet_at-requires : goal.half_facet_at-requires
half_facet_at-requires c e =
    let r = c.requires.stands in
    whole_other c.args.reach (cells_of_slots c.args.net.now) r.0 c.args.spot.now c.args.facet.now
    (c.requires.marked.picked.among c.args.spot.now r.2.among) c.requires.facet e

-- the cell was found before
pub returns-then-is_gone-clause-crossed : goal.returns-then-is_gone-clause-crossed
returns-then-is_gone-clause-crossed c others s k n crossed t u =
    let d = c.in-Some.ensures in
    let o = other_beside s c.args.net.now others k c.args.spot.now c.args.facet.now d.other d.is in
    crossed_found s c.args.p k.solid crossed c.args.spot.now d.other c.args.facet.now c.args.hole.now.gone.items
    c.args.hole.now.rim.items t c.requires.facet o
    (c.requires.marked.gone c.in-Some.half_facet.place d.other d.at (c.is_gone.ensures.0 c.if-is_gone.true))

pub judge-requires-clause-within : goal.judge-requires-clause-within
judge-requires-clause-within c = let r = c.requires.stands in (r.0, r.2.new)

pub judge-requires-clause-cell : goal.judge-requires-clause-cell
judge-requires-clause-cell c = let d = c.in-Some.ensures in (d.other, d.at)

pub judge-requires-clause-apart : goal.judge-requires-clause-apart
judge-requires-clause-apart c =
    λ z. not_both c.is_gone.result (c.is_gone.ensures.1 z) c.if-is_gone.false

-- the cell is found now
pub returns-then-not-stays-clause-crossed : goal.returns-then-not-stays-clause-crossed
returns-then-not-stays-clause-crossed c others s k n crossed t u =
    let d = c.in-Some.ensures in
    let f = MatchBool-at_false _ _ c.if-not-stays.true (rw c.in-Some-known.is at c.in_ok-known.ensures.judged) in
    let x = f.goes.cell in
    let o = other_beside s c.args.net.now others k c.args.spot.now c.args.facet.now x
    (other_there c.args.net.now c.args.spot.now c.args.facet.now c.in-Some.half_facet.place x d f.goes.at) in
    rw f.found
    (crossed_goes s c.args.p k.solid crossed c.args.spot.now x c.args.facet.now c.args.hole.now.gone.items
    c.args.hole.now.rim.items t c.requires.facet o
    (c.requires.marked.apart c.in-Some.half_facet.place x f.goes.at
    (λ z. not_both c.is_gone.result (c.is_gone.ensures.1 z) c.if-is_gone.false))
    (f.goes.goes others s k n))

-- the facet is one of the rim
pub returns-clause-crossed : goal.returns-clause-crossed
returns-clause-crossed c others s k n crossed t u =
    let d = c.in-Some.ensures in
    let f = MatchBool-at_true _ _ c.if-not-stays.false (rw c.in-Some-known.is at c.in_ok-known.ensures.judged) in
    let o = other_beside s c.args.net.now others k c.args.spot.now c.args.facet.now d.other d.is in
    rw (f.found, c.in_ok-push.ensures.items, c.new.ensures)
    (crossed_stays s c.args.p k.solid crossed c.args.spot.now d.other c.args.facet.now c.args.hole.now.gone.items
    c.args.hole.now.rim.items t c.requires.facet o u (f.stays d.other d.at others s k n))
