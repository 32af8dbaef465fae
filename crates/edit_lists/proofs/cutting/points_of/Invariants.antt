use Rattle.std.specs.Prelude.{◌≡◌, ℕ, take}
use Rattle.std.specs.List.{list_any}
use Rattle.edit_lists.specs.Cutting.{has_place, has_key}
use Rattle.edit_lists.specs.Dealing.{all_of, pairs_in}
use Rattle.edit_lists.proofs.cutting.points_of.Given as goal

abbrev pub invariant-loop-list : goal.invariant-loop-list
invariant-loop-list l =
    (p : ℕ) → has_key l.keys p ≡ list_any (has_place p) (all_of (pairs_in (take l.list-index l.lists)))
