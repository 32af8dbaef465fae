use Rattle.part_edits.proofs.Taken.{all_across, around_all, around_star, behind_here}
use Rattle.part_edits.proofs.take.what_comes.Goals as goal

pub cells_for_star-requires-clause-once : goal.cells_for_star-requires-clause-once
cells_for_star-requires-clause-once c = rw c.cells.ensures c.requires.2.star_of.once

pub cells_for_star-requires-clause-around : goal.cells_for_star-requires-clause-around
cells_for_star-requires-clause-around c =
    let r = c.requires in (
      r.1,
      rw (c.cells.ensures, c.cells-2.ensures)
          (around_star r.0 r.1 c.args.v c.args.linked.now.cells c.args.star.now r.2),
    )

pub returns-in-Some : goal.returns-in-Some
returns-in-Some c others s o =
    let f = rw (c.in-Some.is, c.cells.ensures, c.cells-2.ensures) at c.in_ok-cells.ensures in
    f s (around_star others s c.args.v c.args.linked.now.cells c.args.star.now o)

pub cells_for_star-requires-2-clause-around : goal.cells_for_star-requires-2-clause-around
cells_for_star-requires-2-clause-around c =
    let r = c.requires in
    let around = c.in-Some-found.around.items in
    let b = behind_here r.0 r.1 c.args.v c.args.linked.now.cells c.args.star.now r.2 around
    (rw c.in-Some-found.is at c.in_ok-found.ensures) in (
      r.1,
      rw (c.cells-3.ensures, c.deref.ensures.value)
          (around_all r.0 r.1 c.args.v c.args.linked.now.cells c.args.star.now r.2 around b),
    )

pub returns-in-Some-cells : goal.returns-in-Some-cells
returns-in-Some-cells c others s o =
    let around = c.in-Some-found.around.items in
    let b = behind_here others s c.args.v c.args.linked.now.cells c.args.star.now o around
    (rw c.in-Some-found.is at c.in_ok-found.ensures) in
    let f = rw (c.in-Some-cells.is, c.cells-3.ensures, c.deref.ensures.value) at c.in_ok-cells-2.ensures in
    f s (around_all others s c.args.v c.args.linked.now.cells c.args.star.now o around b)

pub returns : goal.returns
returns c others s o =
    let around = c.in-Some-found.around.items in
    let b = behind_here others s c.args.v c.args.linked.now.cells c.args.star.now o around
    (rw c.in-Some-found.is at c.in_ok-found.ensures) in
    let f = rw (c.in-None-cells.is, c.cells-3.ensures, c.deref.ensures.value) at c.in_ok-cells-2.ensures in
    f s (around_all others s c.args.v c.args.linked.now.cells c.args.star.now o around b)
    (all_across others s c.args.v c.args.linked.now.cells c.args.star.now o around b)
