-- the items of the points so far, which are not past the last one
use Rattle.std.proofs.Common.{◌≤◌, ◌-◌}
use Rattle.face_list.specs.Around.{GathersPoints}
use Rattle.face_list.proofs.around.add_points.Given as goal

abbrev pub invariant-loop-so_far : goal.invariant-loop-so_far
invariant-loop-so_far g l = record {
  gathered : GathersPoints g.K.Ord.cmp g.K.Part.parts_of g.K.First.first_of l.cells l.points l.fn.so_far.from
      l.so_far.to l.so_far;
  range : l.so_far.to ≤ l.to;
}

abbrev pub decreases-loop-so_far : goal.decreases-loop-so_far
decreases-loop-so_far g l = l.to - l.so_far.to
