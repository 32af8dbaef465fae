-- The set of points that the history of one thread of point lines leaves.
use Rattle.std.specs.Prelude.{◌≡◌, ℕ, true, List, [], Option, None, Some, IfSome, slice_index}
use Rattle.std.specs.Option.{option_map}
use Rattle.std.proofs.Common.{◌∙◌, ap, arith}
use Rattle.list_laws.proofs.Cited.{index_in}
use Rattle.point_order.specs.Sets.{AreSamePoints, IsAscending, ascending}
use Rattle.point_order.specs.Solid.{is_solid}
use Rattle.point_order.proofs.Cited.{ascending_is}
use Rattle.edit_history.specs.declared.history.Entry.{Entry}
use Rattle.edit_history.specs.Histories.{replay}
use Rattle.edit_history.specs.Laws.{ReplayLaw}
use Rattle.edit_history.specs.Opening.{opening_four, FourPlaces}
use Rattle.edit_history.specs.OneThread.{one_thread, places}
use Rattle.edit_history.proofs.Cited.{four_law, solid_from}

-- what follows of an opening four, where there is one
pub found : {P : FourPlaces → Type 0} (o : Option FourPlaces) (four : List ℕ) → option_map places o ≡ Some four →
    IfSome o P → (f : FourPlaces) × P f
found None four e k = absurd (cc e)
found (Some f) four e k = (f, k)

-- the history leaves the set of the points
pub leaves_points : (points four : List ℕ) (h : List Entry) → ReplayLaw →
    option_map places (opening_four points) ≡ Some four → h ≡ one_thread points [] → replay h ≡ ascending points
leaves_points points four h law e is = ap replay is ∙ (found (opening_four points) four e (law points)).1

-- the ascending list of the points of a list
pub set_is : (list points : List ℕ) → IsAscending points → AreSamePoints list points → points ≡ ascending list
set_is list points a same = ascending_is points list a (λ p i. (same p).1 i) (λ p i. (same p).0 i)

-- points with an opening four are solid
pub solid_by : (points four : List ℕ) → option_map places (opening_four points) ≡ Some four → is_solid points ≡ true
solid_by points four e =
    let r = found (opening_four points) four e (four_law points) in
    let f = r.0 in
    let k = r.1 in
    let a = k.ascending in
    let n = k.within in
    solid_from points (slice_index points f.first) (slice_index points f.second) (slice_index points f.third)
    (slice_index points f.fourth)
    (index_in points f.first (omega (arith, a.0, a.1, a.2, n))) (index_in points f.second (omega (arith, a.1, a.2, n)))
    (index_in points f.third (omega (arith, a.2, n))) (index_in points f.fourth n) k.independent
