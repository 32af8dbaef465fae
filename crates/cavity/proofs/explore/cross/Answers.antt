use Rattle.std.proofs.Common.{ap, subst, sym, ◌∙◌}
use Rattle.list_laws.proofs.Cited.{not_both}
use Rattle.point_order.specs.declared.cell.Cell.{Cell}
use Rattle.point_order.specs.Sets.{IsIn}
use Rattle.cell_store.proofs.Cited.{solid_set}
use Rattle.cell_conflict.proofs.Cited.{held_on}
use Rattle.cavity.specs.Tables.{IsBeside, cell_number}
use Rattle.hole_laws.proofs.Cited.{crossed_found, crossed_goes, crossed_stays}
use Rattle.cavity.proofs.explore.cross.Goals as goal

pub spot_across-other-requires-clause-shown : goal.spot_across-other-requires-clause-shown
spot_across-other-requires-clause-shown c = let r = c.requires.shown in
    (r.0, r.1, (r.3.so_far.goes c.args.cell.now r.3.among).before)

pub is_spot_in_conflict-requires-clause-shown : goal.is_spot_in_conflict-requires-clause-shown
is_spot_in_conflict-requires-clause-shown c =
    let r = c.requires.shown in
    (r.0, r.1, (c.spot_across-other.ensures r.0 r.1 (r.3.so_far.goes c.args.cell.now r.3.among).before).listed, r.3.new)

pub is_spot_in_conflict-requires-clause-held : goal.is_spot_in_conflict-requires-clause-held
is_spot_in_conflict-requires-clause-held c =
    let r = c.requires.shown in
    let o = c.spot_across-other.ensures r.0 r.1 (r.3.so_far.goes c.args.cell.now r.3.among).before in
    held_on c.args.hold.now r.0 (solid_set c.args.hold.now r.0 r.1).set c.spot_across-other.result o.listed
    c.args.facet.now o.has c.requires.held

pub returns-then-is_back-clause-crossed : goal.returns-then-is_back-clause-crossed
returns-then-is_back-clause-crossed c h st crossed t u =
    let b = subst (λ (q : Cell). IsBeside c.args.judged.now q c.args.facet.now) c.cell.ensures
    (c.is_back.ensures c.if-is_back.true) in
    crossed_found h c.args.point (solid_set c.args.hold.now h st) crossed c.args.cell.now b.other c.args.facet.now
    c.args.judged.now c.args.rim.now.items t c.requires.facet (record {
      listed = (t.so_far.goes b.other b.found).before;
      has = b.has;
      differs = b.differs;
    }) b.found

pub has-requires : goal.has-requires
has-requires c = c.hash_of-number.ensures ∙ ap cell_number (c.cell-2.ensures ∙ sym c.cell-3.ensures)

pub push-requires : goal.push-requires
push-requires c = c.hash_of-number.ensures ∙ ap cell_number c.cell-2.ensures

pub returns-then-has-clause-crossed : goal.returns-then-has-clause-crossed
returns-then-has-clause-crossed c h st crossed t u =
    let o = c.spot_across-other.ensures h st (t.so_far.goes c.args.cell.now t.among).before in
    crossed_found h c.args.point (solid_set c.args.hold.now h st) crossed c.args.cell.now c.spot_across-other.result
    c.args.facet.now c.args.judged.now c.args.rim.now.items t c.requires.facet o
    (subst (λ (q : Cell). IsIn q c.args.judged.now) c.cell-3.ensures (c.has.ensures.0 c.if-has.true))

pub returns-in_ok-push-clause-crossed : goal.returns-in_ok-push-clause-crossed
returns-in_ok-push-clause-crossed c h st crossed t u =
    let o = c.spot_across-other.ensures h st (t.so_far.goes c.args.cell.now t.among).before in
    rw (c.note_beside.ensures, c.in_ok-push.ensures.pushed)
    (crossed_goes h c.args.point (solid_set c.args.hold.now h st) crossed c.args.cell.now c.spot_across-other.result
    c.args.facet.now c.args.judged.now c.args.rim.now.items t c.requires.facet o
    (subst (λ (q : Cell). ¬ (IsIn q c.args.judged.now)) c.cell-3.ensures (λ m. not_both c.has.result (c.has.ensures.1 m)
    c.if-has.false))
    (c.if-is_spot_in_conflict.ensures h st t.new o.listed))

pub returns-in_ok-push-2-clause-crossed : goal.returns-in_ok-push-2-clause-crossed
returns-in_ok-push-2-clause-crossed c h st crossed t u =
    let o = c.spot_across-other.ensures h st (t.so_far.goes c.args.cell.now t.among).before in
    rw c.in_ok-push-2.ensures.items
    (crossed_stays h c.args.point (solid_set c.args.hold.now h st) crossed c.args.cell.now c.spot_across-other.result
    c.args.facet.now c.args.judged.now c.args.rim.now.items t c.requires.facet o u
    (c.if-is_spot_in_conflict.ensures h st t.new o.listed))
