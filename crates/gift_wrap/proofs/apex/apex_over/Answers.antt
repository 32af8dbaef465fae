use Rattle.std.proofs.Common.{sym, subst, List, ℕ, Some, take, ◌++◌, ◌∷◌, []}
use Rattle.list_laws.proofs.Cited.{apart_place, at_place, distinct_ascending, in_take, not_both, take_next}
use Rattle.gift_wrap.specs.Balls.{last_of_ball}
use Rattle.gift_wrap.specs.Wraps.{LeadsAbove}
use Rattle.gift_wrap.proofs.Apexes.{lead_apart, next_below, next_above}
use Rattle.gift_wrap.proofs.Balls.{ball_apart}
use Rattle.gift_wrap.proofs.apex.apex_over.Goals.{then-is_over, else-is_over}
use Rattle.gift_wrap.proofs.apex.apex_over.Goals as goal

pub loop-p-init : goal.loop-p-init
loop-p-init c = (λ e m. absurd m, tt)

pub leader-requires-clause-best : goal.leader-requires-clause-best
leader-requires-clause-best c =
    let t = c.args.points.now in
    ball_apart c.args.a c.args.b c.args.c c.loop-p.best c.p-item.result c.loop-p.invariant.1
    (lead_apart t (take c.loop-p.p-index t) c.args.a c.args.b c.args.c (last_of_ball c.loop-p.best) c.p-item.result
    c.loop-p.invariant.0
    (apart_place t c.loop-p.p-index c.p-item.result (distinct_ascending t c.requires) c.loop-p-test.true
    c.p-item.is))

-- with one point more the apex of those so far is known, or none lies above
pub loop-p-preserved : goal.loop-p-preserved
loop-p-preserved c =
    let t = c.args.points.now in
    let n = c.loop-p.p-index in
    let e = c.p-item.result in
    let o = last_of_ball c.loop-p.best in
    let within = λ (x : ℕ). in_take n t x in
    let here = at_place t n e e c.loop-p-test.true c.p-item.is in
    let apart = lead_apart t (take n t) c.args.a c.args.b c.args.c o e c.loop-p.invariant.0
    (apart_place t n e (distinct_ascending t c.requires) c.loop-p-test.true c.p-item.is) in
    elim c.if-is_over.branch [
      | then-is_over w ↦ rw w.best-is (
        subst (λ (m : List ℕ). LeadsAbove t m c.args.a c.args.b c.args.c (Some w.leader.result.last))
            (sym (take_next t n e c.loop-p-test.true c.p-item.is))
            (subst (λ d. LeadsAbove t (take n t ++ e ∷ []) c.args.a c.args.b c.args.c (Some d))
            (sym w.leader.ensures.leads)
            (next_above t (take n t) c.args.a c.args.b c.args.c within e here
            (c.is_over.ensures.0 w.if-is_over.true) o apart c.loop-p.invariant.0)),
        w.leader.ensures.ball,
      )
      | else-is_over w ↦ rw w.best-is (
        subst (λ (m : List ℕ). LeadsAbove t m c.args.a c.args.b c.args.c o)
            (sym (take_next t n e c.loop-p-test.true c.p-item.is))
            (next_below t (take n t) c.args.a c.args.b c.args.c within e here o
            (λ h. not_both c.is_over.result (c.is_over.ensures.1 h) w.if-is_over.false) c.loop-p.invariant.0),
        c.loop-p.invariant.1,
      )
    ]
