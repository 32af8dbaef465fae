use Rattle.std.proofs.Common.{◌≡◌, ap, [], ◌∷◌, ◌++◌, ◌∙◌, ◌+◌, List, ℕ, get_or, drop, arith}
use Rattle.point_order.specs.Complex.{is_full}
use Rattle.point_order.specs.declared.cell.Cell.TheVariants.{Full}
use Rattle.complex_trial.specs.Trial.{found_from}
use Rattle.complex_trial.proofs.Steps.{one_turn, in_order, at_place}
use Rattle.complex_trial.proofs.trial.push_full_from_three.Goals as goal

pub push_if_full-requires-clause-first : goal.push_if_full-requires-clause-first
push_if_full-requires-clause-first c =
    in_order c.args.points.now c.args.i c.args.j c.index-points-i.result c.index-points-j.result c.requires.order
    (omega arith) (omega arith) c.index-points-i.is c.index-points-j.is

pub push_if_full-requires-clause-second : goal.push_if_full-requires-clause-second
push_if_full-requires-clause-second c =
    in_order c.args.points.now c.args.j c.args.k c.index-points-j.result c.index-points-k.result c.requires.order
    (omega arith) (omega arith) c.index-points-j.is c.index-points-k.is

pub push_if_full-requires-clause-third : goal.push_if_full-requires-clause-third
push_if_full-requires-clause-third c =
    in_order c.args.points.now c.args.k c.loop-l.l c.index-points-k.result c.index-points-l.result c.requires.order
    (omega arith) (omega arith) c.index-points-k.is c.index-points-l.is

pub loop-l-preserved : goal.loop-l-preserved
loop-l-preserved c =
    let s = c.args.points.now in
    let ei : c.index-points-i.result ≡ get_or s c.args.i 0 =
    at_place s c.args.i c.index-points-i.result (omega arith) c.index-points-i.is in
    let ej : c.index-points-j.result ≡ get_or s c.args.j 0 =
    at_place s c.args.j c.index-points-j.result (omega arith) c.index-points-j.is in
    let ek : c.index-points-k.result ≡ get_or s c.args.k 0 =
    at_place s c.args.k c.index-points-k.result (omega arith) c.index-points-k.is in
    let el : c.index-points-l.result ≡ get_or s c.loop-l.l 0 =
    at_place s c.loop-l.l c.index-points-l.result (omega arith) c.index-points-l.is in
    let same : (c.index-points-i.result ∷ c.index-points-j.result ∷ c.index-points-k.result ∷ c.index-points-l.result
    ∷ []) ≡ (get_or s c.args.i 0 ∷ get_or s c.args.j 0 ∷ get_or s c.args.k 0 ∷ get_or s c.loop-l.l 0 ∷ []) = cc in
    one_turn Full (is_full s) (get_or s c.args.i 0 ∷ get_or s c.args.j 0 ∷ get_or s c.args.k 0 ∷ []) 0 s c.loop-l.l
    c.loop-l.cells.items c.push_if_full.new.cells.items _ c.loop-l-test.true
    (c.in_ok-push_if_full.ensures ∙ ap (λ (front : List ℕ). c.loop-l.cells.items ++ found_from Full (is_full s) front 0
    (drop (c.loop-l.l + 1) s)) same) c.loop-l.invariant
