-- the items of the points so far
use Rattle.std.proofs.Common.{◌≡◌, ◌-◌, length}
use Rattle.face_list.specs.Around.{GathersPoints}
use Rattle.face_list.proofs.beside.gather_in_rounds.Given as goal

abbrev pub invariant-loop-so_far : goal.invariant-loop-so_far
invariant-loop-so_far g l = record {
  gathered : GathersPoints g.K.Ord.cmp g.K.Part.parts_of g.K.First.first_of l.cells l.points 0 l.so_far.to l.so_far;
  all : l.count ≡ length l.points.keys.items;
}

abbrev pub decreases-loop-so_far : goal.decreases-loop-so_far
decreases-loop-so_far g l = l.count - l.so_far.to
