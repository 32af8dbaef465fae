use Rattle.std.proofs.Common.{◌≡◌, ◌∙◌, ℕ, ℤ, pos, ◌<◌, Bool, ◌&&◌, ◌||◌, lit<, w64, to_z, of_z}
use Rattle.std.specs.Int.{w128}
use Rattle.whole_ring.specs.Bounds.{IsWithin}
use Rattle.whole_ring.proofs.Cited.{read, within_as, within_below, within_fits}
use Rattle.point_order.specs.Coordinates.{x_of, y_of, z_of}
use Rattle.point_order.specs.Orientation.{orientation}
use Rattle.point_order.specs.Sizes.{greatest_difference}
use Rattle.point_order.proofs.Cited.{orientation_from}
use Rattle.small_spheres.specs.Within.{square_of_centre}
use Rattle.small_spheres.specs.Boxes.{low_gap, high_gap, is_clear}
use Rattle.small_spheres.proofs.ScalarProducts.{centre_square_from, read_scalar}
use Rattle.small_spheres.proofs.boxes.sphere_inside.Goals as goal

-- equal numbers have the same planes beyond
same_low : {r f g : Bool} {o q n s k l m t : ℤ} → r ≡ (f || is_clear o q (low_gap o n s)) → f ≡ g → o ≡ k → q ≡ l →
    n ≡ m → s ≡ t → r ≡ (g || is_clear k l (low_gap k m t))
same_low e f g h i j = cc

same_high : {r f g : Bool} {o q n s k l m t : ℤ} → r ≡ (f || is_clear o q (high_gap o n s)) → f ≡ g → o ≡ k → q ≡ l →
    n ≡ m → s ≡ t → r ≡ (g || is_clear k l (high_gap k m t))
same_high e f g h i j = cc

-- six tests
same_six : {r k l m n p q e f g h i j : Bool} → r ≡ ((k && l) && (m && n) && (p && q)) → k ≡ e → l ≡ f → m ≡ g →
    n ≡ h → p ≡ i → q ≡ j → r ≡ ((e && f) && (g && h) && (i && j))
same_six a b c d x y z = cc

-- a coordinate and a step are read as themselves
read_coordinate : {x : ℤ} {k : ℕ} → x ≡ pos k → k < 16384 → to_z w64 (of_z w64 x) ≡ pos k
read_coordinate e h = read (within_fits w64 (within_as e (within_below h)) (lit< tt)) ∙ e

read_step : {x : ℤ} → IsWithin greatest_difference x → to_z w64 (of_z w64 x) ≡ x
read_step h = read (within_fits w64 h (lit< tt))

pub returns : goal.returns
returns c =
    let u = c.between.ensures in
    let v = c.between-2.ensures in
    let w = c.between-3.ensures in
    let n = c.centre_of-n in
    let s = c.between-s in
    let t = c.between-t in
    let o : to_z w64 (of_z w64 c.triple-o.result) ≡ orientation c.args.a c.args.b c.args.c c.args.d =
    read (within_fits w64 c.triple-o.ensures.bound (lit< tt)) ∙ c.triple-o.ensures.value
    ∙ orientation_from c.args.a c.args.b c.args.c c.args.d u.x u.y u.z v.x v.y v.z w.x w.y w.z in
    let q : to_z w128 (of_z w128 c.square_of-square.result) ≡ square_of_centre c.args.a c.args.b c.args.c c.args.d =
    read (within_fits w128 c.square_of-square.ensures.bound (lit< tt)) ∙ c.square_of-square.ensures.value
    ∙ centre_square_from c.args.a c.args.b c.args.c c.args.d n.ensures.x n.ensures.y n.ensures.z in
    same_six c.all_of.ensures
    (same_low c.low_end.ensures
    (c.is_first.ensures (x_of c.args.low) (read_coordinate c.x.ensures.value c.x.ensures.bound)) o q
    (read_scalar n.result.x_within ∙ n.ensures.x) (read_step s.result.x_within ∙ s.ensures.x))
    (same_high c.high_end.ensures
    (c.is_last.ensures (x_of c.args.high) (read_coordinate c.x-2.ensures.value c.x-2.ensures.bound)) o q
    (read_scalar n.result.x_within ∙ n.ensures.x) (read_step t.result.x_within ∙ t.ensures.x))
    (same_low c.low_end-2.ensures
    (c.is_first-2.ensures (y_of c.args.low) (read_coordinate c.y.ensures.value c.y.ensures.bound)) o q
    (read_scalar n.result.y_within ∙ n.ensures.y) (read_step s.result.y_within ∙ s.ensures.y))
    (same_high c.high_end-2.ensures
    (c.is_last-2.ensures (y_of c.args.high) (read_coordinate c.y-2.ensures.value c.y-2.ensures.bound)) o q
    (read_scalar n.result.y_within ∙ n.ensures.y) (read_step t.result.y_within ∙ t.ensures.y))
    (same_low c.low_end-3.ensures
    (c.is_first-3.ensures (z_of c.args.low) (read_coordinate c.z.ensures.value c.z.ensures.bound)) o q
    (read_scalar n.result.z_within ∙ n.ensures.z) (read_step s.result.z_within ∙ s.ensures.z))
    (same_high c.high_end-3.ensures
    (c.is_last-3.ensures (z_of c.args.high) (read_coordinate c.z-2.ensures.value c.z-2.ensures.bound)) o q
    (read_scalar n.result.z_within ∙ n.ensures.z) (read_step t.result.z_within ∙ t.ensures.z))
