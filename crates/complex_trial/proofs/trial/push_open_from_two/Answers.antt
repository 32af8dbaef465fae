use Rattle.std.proofs.Common.{◌≡◌, ap, [], ◌∷◌, ◌++◌, ◌∙◌, ◌+◌, List, ℕ, get_or, drop, arith}
use Rattle.point_order.specs.Complex.{is_open}
use Rattle.point_order.specs.declared.cell.Cell.TheVariants.{Open}
use Rattle.complex_trial.specs.Trial.{found_from}
use Rattle.complex_trial.proofs.Steps.{one_turn, in_order, at_place}
use Rattle.complex_trial.proofs.trial.push_open_from_two.Goals as goal

pub push_if_open-requires-clause-first : goal.push_if_open-requires-clause-first
push_if_open-requires-clause-first c =
    in_order c.args.points.now c.args.i c.args.j c.index-points-i.result c.index-points-j.result c.requires.order
    (omega arith) (omega arith) c.index-points-i.is c.index-points-j.is

pub push_if_open-requires-clause-second : goal.push_if_open-requires-clause-second
push_if_open-requires-clause-second c =
    in_order c.args.points.now c.args.j c.loop-k.k c.index-points-j.result c.index-points-k.result c.requires.order
    (omega arith) (omega arith) c.index-points-j.is c.index-points-k.is

pub loop-k-preserved : goal.loop-k-preserved
loop-k-preserved c =
    let s = c.args.points.now in
    let ei : c.index-points-i.result ≡ get_or s c.args.i 0 =
    at_place s c.args.i c.index-points-i.result (omega arith) c.index-points-i.is in
    let ej : c.index-points-j.result ≡ get_or s c.args.j 0 =
    at_place s c.args.j c.index-points-j.result (omega arith) c.index-points-j.is in
    let ek : c.index-points-k.result ≡ get_or s c.loop-k.k 0 =
    at_place s c.loop-k.k c.index-points-k.result (omega arith) c.index-points-k.is in
    let same : (c.index-points-i.result ∷ c.index-points-j.result ∷ c.index-points-k.result ∷ [])
    ≡ (get_or s c.args.i 0 ∷ get_or s c.args.j 0 ∷ get_or s c.loop-k.k 0 ∷ []) = cc in
    one_turn Open (is_open s) (get_or s c.args.i 0 ∷ get_or s c.args.j 0 ∷ []) 0 s c.loop-k.k c.loop-k.cells.items
    c.push_if_open.new.cells.items _ c.loop-k-test.true
    (c.in_ok-push_if_open.ensures ∙ ap (λ (front : List ℕ). c.loop-k.cells.items ++ found_from Open (is_open s) front 0
    (drop (c.loop-k.k + 1) s)) same) c.loop-k.invariant
