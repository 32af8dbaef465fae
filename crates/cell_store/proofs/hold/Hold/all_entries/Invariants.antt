use Rattle.std.proofs.Common.{◌≡◌, take}
use Rattle.std.specs.List.{flat_map}
use Rattle.cell_store.proofs.MeshLaws.{entries_of}
use Rattle.cell_store.proofs.hold.Hold.all_entries.Given as goal

abbrev pub invariant-loop-b : goal.invariant-loop-b
invariant-loop-b l = l.list.items ≡ flat_map entries_of (take l.b l.self.places)
