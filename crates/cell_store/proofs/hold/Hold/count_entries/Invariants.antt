use Rattle.std.proofs.Common.{◌≡◌, [], ◌-◌, ◌^◌, min, length, take}
use Rattle.std.specs.List.{flat_map}
use Rattle.std.specs.Option.{option_map_or}
use Rattle.cell_store.proofs.hold.Hold.count_entries.Given as goal

abbrev pub invariant-loop-b : goal.invariant-loop-b
invariant-loop-b l = l.count ≡ min (length (flat_map (λ o. option_map_or (λ c. c.entries) o [])
    (take l.b l.self.places))) (2 ^ 64 - 1)
