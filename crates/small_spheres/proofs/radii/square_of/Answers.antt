use Rattle.std.proofs.Common.{◌≡◌, ◌∙◌, lit<, w64, to_z, of_z}
use Rattle.std.specs.Int.{w128}
use Rattle.std.specs.Int.RustNames.{FitsSigned}
use Rattle.whole_ring.proofs.Cited.{read, same_product, same_sum, within_fits, within_read}
use Rattle.point_order.specs.Orientation.{square_of_step}
use Rattle.small_spheres.proofs.ScalarProducts.{read_scalar}
use Rattle.small_spheres.proofs.radii.square_of.Goals as goal

pub sum-requires-clause-p : goal.sum-requires-clause-p
sum-requires-clause-p s = within_read w128 s.square.ensures.bound (lit< tt)

pub sum-requires-clause-q : goal.sum-requires-clause-q
sum-requires-clause-q s = within_read w128 s.square-2.ensures.bound (lit< tt)

pub sum-requires-clause-r : goal.sum-requires-clause-r
sum-requires-clause-r s = within_read w128 s.square-3.ensures.bound (lit< tt)

pub returns-clause-value : goal.returns-clause-value
unfolding square_of_step
returns-clause-value s =
    let x = read_scalar s.args.n.x_within in
    let xx = read (within_fits w128 s.square.ensures.bound (lit< tt)) ∙ s.square.ensures.value ∙ same_product x x in
    let y = read_scalar s.args.n.y_within in
    let yy = read (within_fits w128 s.square-2.ensures.bound (lit< tt)) ∙ s.square-2.ensures.value ∙ same_product y y in
    let z = read_scalar s.args.n.z_within in
    let zz = read (within_fits w128 s.square-3.ensures.bound (lit< tt)) ∙ s.square-3.ensures.value ∙ same_product z z in
    let fits : FitsSigned w128 s.sum.result = record { sfits = s.sum.type_inv } in
    read fits ∙ s.sum.ensures.value ∙ same_sum (same_sum xx yy) zz

pub returns-clause-bound : goal.returns-clause-bound
returns-clause-bound s = within_read w128 s.sum.ensures.bound (lit< tt)
