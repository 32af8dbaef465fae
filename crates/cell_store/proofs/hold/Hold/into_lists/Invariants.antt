use Rattle.std.proofs.Common.{◌≡◌, take}
use Rattle.std.specs.List.{flat_map}
use Rattle.cell_store.specs.Gathered.{AreGatheredFrom}
use Rattle.cell_store.proofs.Gathering.{AreLeft}
use Rattle.cell_store.proofs.MeshLaws.{entries_of}
use Rattle.cell_store.proofs.hold.Hold.into_lists.Given as goal

abbrev pub invariant-loop-b : goal.invariant-loop-b
invariant-loop-b l =
    (l.log.items ≡ flat_map entries_of (take l.b l.initial.self.places))
    × AreGatheredFrom l.initial.self l.b (flat_map (λ list. list.items) l.lists.items)
    × AreLeft l.initial.self l.self l.b
