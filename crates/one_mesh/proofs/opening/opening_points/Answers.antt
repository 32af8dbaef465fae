use Rattle.std.proofs.Common.{arith}
use Rattle.insertion.proofs.Cited.{four_found}
use Rattle.one_mesh.proofs.opening.opening_points.Goals as goal

pub tagged_point-requires-3-clause-place : goal.tagged_point-requires-3-clause-place
tagged_point-requires-3-clause-place c = (four_found c.args.points.now c.in_ok-four.four
    c.in_ok-four.ensures.found).third

pub tagged_point-requires-3-clause-small : goal.tagged_point-requires-3-clause-small
tagged_point-requires-3-clause-small c =
    let f = (four_found c.args.points.now c.in_ok-four.four c.in_ok-four.ensures.found).third in
    let s = c.requires in
    omega (arith, f, s)

pub tagged_point-requires-4-clause-place : goal.tagged_point-requires-4-clause-place
tagged_point-requires-4-clause-place c = (four_found c.args.points.now c.in_ok-four.four
    c.in_ok-four.ensures.found).fourth

pub tagged_point-requires-4-clause-small : goal.tagged_point-requires-4-clause-small
tagged_point-requires-4-clause-small c =
    let f = (four_found c.args.points.now c.in_ok-four.four c.in_ok-four.ensures.found).fourth in
    let s = c.requires in
    omega (arith, f, s)

pub returns-clause-independent : goal.returns-clause-independent
returns-clause-independent c =
    rw (c.tagged_point.ensures, c.tagged_point-2.ensures, c.tagged_point-3.ensures, c.tagged_point-4.ensures)
    (four_found c.args.points.now c.in_ok-four.four c.in_ok-four.ensures.found).independent
