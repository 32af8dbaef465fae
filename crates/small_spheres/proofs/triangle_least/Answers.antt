use Rattle.std.proofs.Common.{◌∙◌, ap, subst, sym, pos, ◌*ℤ◌, ◌≤ℤ◌, lit<, w64}
use Rattle.std.specs.Int.{w128}
use Rattle.std.specs.Int.RustNames.{FitsSigned}
use Rattle.whole_ring.proofs.Cited.{read, wide, within_fits, within_read}
use Rattle.point_order.specs.Orientation.{normal_x, normal_y, normal_z}
use Rattle.small_spheres.specs.Inside.{square_of_normal}
use Rattle.small_spheres.proofs.Leasts.{same_test, step_square}
use Rattle.small_spheres.proofs.triangle_least.Goals as goal

pub four_times_sides-requires : goal.four_times_sides-requires
four_times_sides-requires s = within_read w128 s.product_of_sides.ensures.bound (lit< tt)

pub least_factor-requires : goal.least_factor-requires
unfolding square_of_normal
least_factor-requires s =
    let a = s.args.a in
    let b = s.args.b in
    let c = s.args.c in
    let square = wide (within_fits w64 s.normal_square.ensures.bound (lit< tt)) ∙ s.normal_square.ensures.value in
    subst (λ x. pos 0 ≤ℤ x) (sym square) (step_square (normal_x a b c) (normal_y a b c) (normal_z a b c))

pub returns : goal.returns
returns s alpha below =
    let sides = read (within_fits w128 s.product_of_sides.ensures.bound (lit< tt)) ∙ s.product_of_sides.ensures.value in
    let four_fits : FitsSigned w128 s.four_times_sides.result = record { sfits = s.four_times_sides.type_inv } in
    let four = read four_fits ∙ s.four_times_sides.ensures ∙ ap (λ x. pos 4 *ℤ x) sides in
    let square = wide (within_fits w64 s.normal_square.ensures.bound (lit< tt)) ∙ s.normal_square.ensures.value in
    sym (same_test alpha four square) ∙ s.least_factor.ensures alpha below
