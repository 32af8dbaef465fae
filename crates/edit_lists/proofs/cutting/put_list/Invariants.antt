use Rattle.std.specs.Prelude.{◌≡◌, ℕ, ◌||◌, take}
use Rattle.std.specs.List.{list_any}
use Rattle.edit_lists.specs.Cutting.{has_place, has_key}
use Rattle.edit_lists.proofs.cutting.put_list.Given as goal

abbrev pub invariant-loop-pair : goal.invariant-loop-pair
invariant-loop-pair l =
    (p : ℕ) → has_key l.keys p ≡ (has_key l.initial.keys p || list_any (has_place p) (take l.pair-index l.pairs))
