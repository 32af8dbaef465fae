use Rattle.std.proofs.Common.{arith}
use Rattle.net_digs.proofs.Growing.{four_found, found_among, in_order}
use Rattle.net_digs.proofs.opening.four_of.Goals as goal

pub point_at-requires : goal.point_at-requires
point_at-requires c = let f = four_found c.args.points.now c.in-Ok.four c.in-Ok.ensures.found in omega
    (arith, f.first, f.second, f.third, f.fourth)

pub point_at-requires-in-Ok : goal.point_at-requires-in-Ok
point_at-requires-in-Ok c = let f = four_found c.args.points.now c.in-Ok.four c.in-Ok.ensures.found in omega
    (arith, f.second, f.third, f.fourth)

pub point_at-requires-in-Ok-2 : goal.point_at-requires-in-Ok-2
point_at-requires-in-Ok-2 c = let f = four_found c.args.points.now c.in-Ok.four c.in-Ok.ensures.found in omega
    (arith, f.third, f.fourth)

pub point_at-requires-in-Ok-3 : goal.point_at-requires-in-Ok-3
point_at-requires-in-Ok-3 c = (four_found c.args.points.now c.in-Ok.four c.in-Ok.ensures.found).fourth

pub returns-clause-first : goal.returns-clause-first
returns-clause-first c =
    let f = four_found c.args.points.now c.in-Ok.four c.in-Ok.ensures.found in
    rw c.point_at.ensures (rw c.point_at-in-Ok.ensures (in_order c.args.points.now _ _ c.requires.ascending f.first
    (omega (arith, f.second, f.third, f.fourth))))

pub returns-clause-second : goal.returns-clause-second
returns-clause-second c =
    let f = four_found c.args.points.now c.in-Ok.four c.in-Ok.ensures.found in
    rw c.point_at-in-Ok.ensures (rw c.point_at-in-Ok-2.ensures (in_order c.args.points.now _ _ c.requires.ascending
    f.second (omega (arith, f.third, f.fourth))))

pub returns-clause-third : goal.returns-clause-third
returns-clause-third c =
    let f = four_found c.args.points.now c.in-Ok.four c.in-Ok.ensures.found in
    rw c.point_at-in-Ok-2.ensures (rw c.point_at-in-Ok-3.ensures (in_order c.args.points.now _ _ c.requires.ascending
    f.third f.fourth))

pub returns-clause-independent : goal.returns-clause-independent
returns-clause-independent c = rw c.point_at.ensures (rw c.point_at-in-Ok.ensures
    (rw c.point_at-in-Ok-2.ensures (rw c.point_at-in-Ok-3.ensures (four_found c.args.points.now c.in-Ok.four
    c.in-Ok.ensures.found).independent)))

pub returns-clause-among : goal.returns-clause-among
returns-clause-among c = rw c.point_at.ensures (rw c.point_at-in-Ok.ensures
    (rw c.point_at-in-Ok-2.ensures (rw c.point_at-in-Ok-3.ensures (found_among c.args.points.now c.in-Ok.four
    (four_found c.args.points.now c.in-Ok.four c.in-Ok.ensures.found)))))
