use Rattle.std.proofs.Common.{arith}
use Rattle.std.proofs.lemmas.Bool.{MatchBool-at_false, MatchBool-at_true}
use Rattle.list_laws.proofs.Cited.{on_err}
use Rattle.point_order.specs.Sets.{with_point}
use Rattle.cell_slots.proofs.Cited.{moved_cells}
use Rattle.linked_mesh.proofs.Moved.{arrived_back, arrived_some, still_there}
use Rattle.linked_mesh.proofs.shift.move_point.Goals as goal

pub add_point-requires : goal.add_point-requires
add_point-requires c = let r = c.requires in (r.0, r.1, r.3)

pub returns-in_err-arrival-clause-refused : goal.returns-in_err-arrival-clause-refused
returns-in_err-arrival-clause-refused c =
    on_err c.from_residual.result
    (λ s k i n. moved_cells s c.args.linked.now.cells c.add_point.new.self.cells c.in_err-arrival.ensures.refused k)

pub take_point-requires : goal.take_point-requires
take_point-requires c =
    let r = c.requires in
    (with_point c.args.b r.0, c.in_ok-arrival.ensures.added r.0 r.1 r.3, still_there r.0 c.args.a c.args.b r.2)

pub returns-then-is_removed-clause-moved : goal.returns-then-is_removed-clause-moved
returns-then-is_removed-clause-moved c s k i n =
    let left = MatchBool-at_true _ _ c.if-is_removed.true
    (c.in-Ok.ensures.taken (with_point c.args.b s) (c.in_ok-arrival.ensures.added s k n)
    (still_there s c.args.a c.args.b i)) in
    (left.solid, left.cells_of)

pub take_back-requires-clause-arrived : goal.take_back-requires-clause-arrived
take_back-requires-clause-arrived c =
    let r = c.requires in
    let x = c.in_ok-arrival.arrival in
    let flat = MatchBool-at_false _ _ c.if-is_removed.false
    (c.in-Ok.ensures.taken (with_point c.args.b r.0) (c.in_ok-arrival.ensures.added r.0 r.1 r.3)
    (still_there r.0 c.args.a c.args.b r.2)) in
    arrived_some r.0 c.args.b x.point x.gone x.fresh c.take_point.new.linked.cells c.in_ok-arrival.ensures.point
    (c.in_ok-arrival.ensures.arrived r.0 r.1 r.3) flat.1

pub take_back-requires-clause-room : goal.take_back-requires-clause-room
take_back-requires-clause-room c =
    let came = c.in_ok-arrival.ensures.room in
    let kept = rw c.if-is_removed.false at c.in-Ok.ensures.room in
    omega (arith, came, kept)

pub returns-else-is_removed-clause-moved : goal.returns-else-is_removed-clause-moved
returns-else-is_removed-clause-moved c s k i n =
    let x = c.in_ok-arrival.arrival in
    let flat = MatchBool-at_false _ _ c.if-is_removed.false
    (c.in-Ok.ensures.taken (with_point c.args.b s) (c.in_ok-arrival.ensures.added s k n)
    (still_there s c.args.a c.args.b i)) in (
      flat.0,
      arrived_back s c.args.b x.point x.gone x.fresh c.take_point.new.linked.cells c.in_ok-arrival.ensures.point
          (c.in_ok-arrival.ensures.arrived s k n) flat.1 c.take_back.new.self.cells c.take_back.ensures,
    )

pub take_back-requires-in-Err-clause-arrived : goal.take_back-requires-in-Err-clause-arrived
take_back-requires-in-Err-clause-arrived c =
    let r = c.requires in
    let x = c.in_ok-arrival.arrival in
    arrived_some r.0 c.args.b x.point x.gone x.fresh c.take_point.new.linked.cells c.in_ok-arrival.ensures.point
    (c.in_ok-arrival.ensures.arrived r.0 r.1 r.3)
    (c.in-Err.ensures.refused (with_point c.args.b r.0) (c.in_ok-arrival.ensures.added r.0 r.1 r.3))

pub returns-in-Err-clause-refused : goal.returns-in-Err-clause-refused
returns-in-Err-clause-refused c s k i n =
    let x = c.in_ok-arrival.arrival in
    arrived_back s c.args.b x.point x.gone x.fresh c.take_point.new.linked.cells c.in_ok-arrival.ensures.point
    (c.in_ok-arrival.ensures.arrived s k n)
    (c.in-Err.ensures.refused (with_point c.args.b s) (c.in_ok-arrival.ensures.added s k n))
    c.take_back-in-Err.new.self.cells c.take_back-in-Err.ensures
