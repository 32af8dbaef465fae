use Rattle.std.proofs.Common.{◌≡◌, true, sym, subst, ◌∙◌, ◌∷◌, []}
use Rattle.point_order.specs.declared.cell.Cell.{Cell}
use Rattle.point_order.specs.Conflicts.{CanJudge, is_in_conflict}
use Rattle.point_order.specs.Sets.{ascending}
use Rattle.hole_laws.specs.Edits.{GoesFrom}
use Rattle.gift_wrap.proofs.Apexes.{apart_above}
use Rattle.gift_wrap.proofs.Wrapping.{leader_is_apex, apex_judged, apex_goes}
use Rattle.gift_wrap.proofs.wrap.cell_on_side.Goals as goal

pub full-cell-requires : goal.full-cell-requires
full-cell-requires c = apart_above c.in_ok-a.a c.in_ok-a.b c.in_ok-a.c c.in_ok-d.d c.in_ok-d.ensures.above

pub conflict-requires : goal.conflict-requires
conflict-requires c =
    let t = c.args.points.now in
    let v = c.args.v in
    let a = c.in_ok-a.a in
    let b = c.in_ok-a.b in
    let c' = c.in_ok-a.c in
    let d = c.in_ok-d.d in
    let m = leader_is_apex t c.args.side.now.facet a b c' d c.requires.wraps.solid.set c.in_ok-a.ensures
    c.requires.facet c.in_ok-d.ensures in
    subst (λ (q : Cell). CanJudge q v v) (sym c.full-cell.ensures)
    (apex_judged t v c.requires.wraps (ascending (a ∷ b ∷ c' ∷ d ∷ [])) m)

pub returns-then-conflict : goal.returns-then-conflict
returns-then-conflict c =
    let t = c.args.points.now in
    let v = c.args.v in
    let a = c.in_ok-a.a in
    let b = c.in_ok-a.b in
    let c' = c.in_ok-a.c in
    let d = c.in_ok-d.d in
    let m = leader_is_apex t c.args.side.now.facet a b c' d c.requires.wraps.solid.set c.in_ok-a.ensures
    c.requires.facet c.in_ok-d.ensures in
    let h = sym c.conflict.ensures ∙ c.if-conflict.true in
    subst (λ (q : Cell). GoesFrom t v q) (sym c.full-cell.ensures)
    (apex_goes t v c.requires.wraps (ascending (a ∷ b ∷ c' ∷ d ∷ [])) m
    (subst (λ (q : Cell). is_in_conflict q v v ≡ true) c.full-cell.ensures h))
