use Rattle.std.proofs.Common.{◌≡◌, ◌∙◌, ap, subst, sym, pos, ◌*ℤ◌, ◌≤ℤ◌, lit<, w64, to_z, of_z}
use Rattle.std.specs.Int.{w128}
use Rattle.std.specs.Int.RustNames.{FitsSigned}
use Rattle.whole_ring.proofs.Cited.{read, same_product, square_nonneg, within_fits, within_read}
use Rattle.point_order.specs.Orientation.{orientation}
use Rattle.point_order.proofs.Cited.{orientation_from}
use Rattle.small_spheres.specs.Within.{square_of_centre}
use Rattle.small_spheres.proofs.Leasts.{same_test}
use Rattle.small_spheres.proofs.cell_least.Goals as goal

pub square_of_orientation-square-requires : goal.square_of_orientation-square-requires
square_of_orientation-square-requires s = within_read w64 s.triple.ensures.bound (lit< tt)

pub four_times_centre-requires : goal.four_times_centre-requires
four_times_centre-requires s = within_read w128 s.centre_square.ensures.bound (lit< tt)

pub least_factor-requires : goal.least_factor-requires
least_factor-requires s =
    let square = s.square_of_orientation-square in
    let squares = read (within_fits w128 square.ensures.bound (lit< tt)) ∙ square.ensures.value in
    subst (λ x. pos 0 ≤ℤ x) (sym squares) (square_nonneg (to_z w64 (of_z w64 s.triple.result)))

-- the number is the least alpha that the cell is within
pub returns : goal.returns
returns s alpha below =
    let a = s.args.a in
    let b = s.args.b in
    let c = s.args.c in
    let d = s.args.d in
    let u = s.between-u.ensures in
    let v = s.between-v.ensures in
    let w = s.between-w.ensures in
    let square = s.square_of_orientation-square in
    let four_fits : FitsSigned w128 s.four_times_centre.result =
    record { sfits = s.four_times_centre.type_inv } in
    let o : to_z w64 (of_z w64 s.triple.result) ≡ orientation a b c d =
    read (within_fits w64 s.triple.ensures.bound (lit< tt)) ∙ s.triple.ensures.value
    ∙ orientation_from a b c d u.x u.y u.z v.x v.y v.z w.x w.y w.z in
    let squares : to_z w128 (of_z w128 square.result) ≡ orientation a b c d *ℤ orientation a b c d =
    read (within_fits w128 square.ensures.bound (lit< tt)) ∙ square.ensures.value ∙ same_product o o in
    let centre : to_z w128 (of_z w128 s.centre_square.result) ≡ square_of_centre a b c d =
    read (within_fits w128 s.centre_square.ensures.bound (lit< tt)) ∙ s.centre_square.ensures.value in
    let four = read four_fits ∙ s.four_times_centre.ensures ∙ ap (λ x. pos 4 *ℤ x) centre in
    sym (same_test alpha four squares) ∙ s.least_factor.ensures alpha below
