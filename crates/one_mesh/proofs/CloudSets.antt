-- The set of a cloud.
use Rattle.std.specs.Prelude.{◌≡◌, List, Some, ℕ, true, option_map}
use Rattle.std.proofs.Common.{◌∙◌, ap}
use Rattle.point_order.specs.Sets.{ascending}
use Rattle.point_order.specs.Solid.{is_solid}
use Rattle.edit_history.specs.Laws.{SetLaw}
use Rattle.edit_history.specs.OneThread.{places}
use Rattle.edit_history.specs.Opening.{opening_four}
use Rattle.point_history.proofs.Cited.{solid_by}

-- it is solid where the points have an opening four
pub set_solid : (points four set : List ℕ) → SetLaw → option_map places (opening_four points) ≡ Some four →
    set ≡ ascending points → is_solid set ≡ true
set_solid points four set law found is = ap is_solid is ∙ law points ∙ solid_by points four found
