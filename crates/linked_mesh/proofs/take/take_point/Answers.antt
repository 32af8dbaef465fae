use Rattle.std.proofs.Common.{subst, List, ◌++◌, ◌≤◌, arith}
use Rattle.list_laws.proofs.Cited.{on_err}
use Rattle.point_order.specs.declared.cell.Cell.{Cell}
use Rattle.cell_slots.specs.Nets.{AreWithAll}
use Rattle.cell_slots.proofs.Cited.{moved_cells}
use Rattle.linked_mesh.proofs.Taken.{back_with, left_with, open_in}
use Rattle.linked_mesh.proofs.take.take_point.Goals as goal

pub returns-in_err-star-clause-refused : goal.returns-in_err-star-clause-refused
returns-in_err-star-clause-refused c =
    on_err c.from_residual.result
    (λ s k. moved_cells s c.args.linked.now.cells c.open_star.new.self.cells c.in_err-star.ensures.refused k)

pub coming-requires : goal.coming-requires
coming-requires c =
    let r = c.requires in (
      r.0,
      open_in r.0 c.args.v c.args.linked.now.cells c.open_star.new.self.cells c.in_ok-star.star r.1 r.2
          c.in_ok-star.ensures.cells (c.in_ok-star.ensures.star r.0 r.1),
    )

pub returns-in_err-close_star-in-Ok-Some-clause-refused :
    goal.returns-in_err-close_star-in-Ok-Some-clause-refused
returns-in_err-close_star-in-Ok-Some-clause-refused c =
    let rest = c.open_star.new.self.cells ++ c.in_ok-star.star in
    on_err c.from_residual-in_err-close_star-in-Ok-Some.result
    (λ s k. moved_cells s rest c.close_star.new.self.cells c.in_err-close_star-in-Ok-Some.ensures.refused
    (moved_cells s c.args.linked.now.cells rest c.in_ok-star.ensures.cells k))

pub returns-in_ok-close_star-in-Ok-Some-clause-taken :
    goal.returns-in_ok-close_star-in-Ok-Some-clause-taken
returns-in_ok-close_star-in-Ok-Some-clause-taken c s k m =
    let rest = c.open_star.new.self.cells in
    let star = c.in_ok-star.star in
    let now = c.close_star.new.self.cells in
    let o = open_in s c.args.v c.args.linked.now.cells rest star k m c.in_ok-star.ensures.cells
    (c.in_ok-star.ensures.star s k) in
    let f = rw c.in-Ok-Some.field-0-is at c.in-Ok-Some.ensures in
    left_with s c.args.v rest star o c.in-Ok-Some.cells.items now (f s o)
    (subst (λ (l : List Cell). AreWithAll rest l now) c.deref.ensures.value
    c.in_ok-close_star-in-Ok-Some.ensures.filled)

pub returns-in-Ok-None-clause-taken : goal.returns-in-Ok-None-clause-taken
returns-in-Ok-None-clause-taken c s k m =
    let rest = c.open_star.new.self.cells in
    let star = c.in_ok-star.star in
    let o = open_in s c.args.v c.args.linked.now.cells rest star k m c.in_ok-star.ensures.cells
    (c.in_ok-star.ensures.star s k) in
    let f = rw c.in-Ok-None.field-0-is at c.in-Ok-None.ensures in
    (f s o, back_with s c.args.v rest star o c.put_star_back.new.self.cells c.put_star_back.ensures.cells)

pub returns-in-Err-clause-refused : goal.returns-in-Err-clause-refused
returns-in-Err-clause-refused c s k =
    let rest = c.open_star.new.self.cells ++ c.in_ok-star.star in
    moved_cells s rest c.put_star_back-in-Err.new.self.cells c.put_star_back-in-Err.ensures.cells
    (moved_cells s c.args.linked.now.cells rest c.in_ok-star.ensures.cells k)

-- as much room is left as there was
pub returns-in_err-star-clause-room_back : goal.returns-in_err-star-clause-room_back
returns-in_err-star-clause-room_back c =
    let kept = c.in_err-star.ensures.kept in
    let h : c.args.linked.now.room ≤ c.open_star.new.self.room = omega (arith, kept) in
    on_err c.from_residual.result h

pub returns-in_err-close_star-in-Ok-Some-clause-room_back :
    goal.returns-in_err-close_star-in-Ok-Some-clause-room_back
returns-in_err-close_star-in-Ok-Some-clause-room_back c =
    let more = c.in_ok-star.ensures.more in
    let kept = c.in_err-close_star-in-Ok-Some.ensures.kept in
    let h : c.args.linked.now.room ≤ c.close_star.new.self.room = omega (arith, more, kept) in
    on_err c.from_residual-in_err-close_star-in-Ok-Some.result h

pub returns-in-Ok-None-clause-room : goal.returns-in-Ok-None-clause-room
returns-in-Ok-None-clause-room c =
    let more = c.in_ok-star.ensures.more in
    let kept = c.put_star_back.ensures.kept in
    omega (arith, more, kept)

pub returns-in-Err-clause-room_back : goal.returns-in-Err-clause-room_back
returns-in-Err-clause-room_back c =
    let more = c.in_ok-star.ensures.more in
    let kept = c.put_star_back-in-Err.ensures.kept in
    omega (arith, more, kept)
