use Rattle.std.proofs.Common.{subst, List, ◌++◌}
use Rattle.list_laws.proofs.Cited.{on_err}
use Rattle.point_order.specs.declared.cell.Cell.{Cell}
use Rattle.cell_slots.specs.Nets.{AreWithAll}
use Rattle.cell_slots.proofs.Cited.{moved_on}
use Rattle.part_edits.proofs.Taken.{back_with, opened_beside, taken_with}
use Rattle.part_edits.proofs.take.take_here.Goals as goal

pub what_comes-requires : goal.what_comes-requires
what_comes-requires c =
    let r = c.requires in (
      r.others,
      r.set,
      opened_beside r.others r.set c.args.v c.args.linked.now.cells c.open_star_here.new.self.cells c.in-Some.star
          r.cells_of r.has (rw c.in-Some.is at c.in_ok-found.ensures.opened),
    )

pub returns-in_err-close_star-in-Ok-Fresh-clause-refused : goal.returns-in_err-close_star-in-Ok-Fresh-clause-refused
returns-in_err-close_star-in-Ok-Fresh-clause-refused c =
    let o = rw c.in-Some.is at c.in_ok-found.ensures.opened in
    on_err c.from_residual-in_err-close_star-in-Ok-Fresh.result
    (moved_on c.args.linked.now.cells (c.open_star_here.new.self.cells ++ c.in-Some.star) c.close_star.new.self.cells
    o.moved c.in_err-close_star-in-Ok-Fresh.ensures.refused)

pub returns-in_ok-close_star-in-Ok-Fresh-clause-taken : goal.returns-in_ok-close_star-in-Ok-Fresh-clause-taken
returns-in_ok-close_star-in-Ok-Fresh-clause-taken c others s k m =
    let rest = c.open_star_here.new.self.cells in
    let star = c.in-Some.star in
    let now = c.close_star.new.self.cells in
    let b = opened_beside others s c.args.v c.args.linked.now.cells rest star k m
    (rw c.in-Some.is at c.in_ok-found.ensures.opened) in
    let f = rw c.in-Ok-Fresh.field-0-is at c.in-Ok-Fresh.ensures in
    taken_with others s c.args.v rest star b c.in-Ok-Fresh.cells.items now (f others s b)
    (subst (λ (l : List Cell). AreWithAll rest l now) c.deref.ensures.value
    c.in_ok-close_star-in-Ok-Fresh.ensures.filled)

pub returns-in-Ok-Level-clause-taken : goal.returns-in-Ok-Level-clause-taken
returns-in-Ok-Level-clause-taken c others s k m =
    let rest = c.open_star_here.new.self.cells in
    let star = c.in-Some.star in
    let b = opened_beside others s c.args.v c.args.linked.now.cells rest star k m
    (rw c.in-Some.is at c.in_ok-found.ensures.opened) in
    let f = rw c.in-Ok-Level.field-0-is at c.in-Ok-Level.ensures in
    (f others s b, back_with others s c.args.v rest star b c.put_star_back.new.self.cells c.put_star_back.ensures.cells)

pub returns-in-Ok-Unknown-clause-taken : goal.returns-in-Ok-Unknown-clause-taken
returns-in-Ok-Unknown-clause-taken c =
    let o = rw c.in-Some.is at c.in_ok-found.ensures.opened in
    moved_on c.args.linked.now.cells (c.open_star_here.new.self.cells ++ c.in-Some.star)
    c.put_star_back-in-Ok-Unknown.new.self.cells o.moved c.put_star_back-in-Ok-Unknown.ensures.cells

pub returns-in-Err-clause-refused : goal.returns-in-Err-clause-refused
returns-in-Err-clause-refused c =
    let o = rw c.in-Some.is at c.in_ok-found.ensures.opened in
    moved_on c.args.linked.now.cells (c.open_star_here.new.self.cells ++ c.in-Some.star)
    c.put_star_back-in-Err.new.self.cells o.moved c.put_star_back-in-Err.ensures.cells
