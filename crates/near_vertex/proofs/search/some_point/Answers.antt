use Rattle.std.proofs.Common.{refl}
use Rattle.near_vertex.proofs.Starts.{some_point_held, start_is_walk}
use Rattle.near_vertex.proofs.search.some_point.Goals as goal

pub returns-in-Some : goal.returns-in-Some
returns-in-Some c s st = c.in-Some.ensures s st

pub unreachable-requires : goal.unreachable-requires
unreachable-requires c =
    let r = c.requires.shown in
    some_point_held c.args.hold.now r.0 c.requires.whole r.1 c.in-None.ensures

pub returns : goal.returns
returns c s st = start_is_walk c.args.hold.now s c.args.q (record {
  place = c.args.q;
  point =
      c.in-Some-lowest_point.p;
}) st (refl, c.in-Some-lowest_point.ensures)
