use Rattle.std.proofs.Common.{◌≡◌, take}
use Rattle.std.specs.List.{flat_map}
use Rattle.cell_store.proofs.Cited.{points_of_bucket}
use Rattle.one_mesh.proofs.lists.all_points_of.Given as goal

abbrev pub invariant-loop-b : goal.invariant-loop-b
invariant-loop-b l = l.list.items ≡ flat_map points_of_bucket (take l.b l.fn.hold.places)
