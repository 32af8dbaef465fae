use Rattle.std.proofs.Common.{◌≡◌, ◌∙◌, sym, lit<, w64, to_z, of_z}
use Rattle.std.specs.Int.{w128}
use Rattle.std.specs.Int.RustNames.{FitsSigned}
use Rattle.whole_ring.proofs.Cited.{read, same_difference, same_product, within_fits, within_read}
use Rattle.point_order.specs.Orientation.{distance}
use Rattle.point_order.proofs.Cited.{distance_from, normal_x_from, normal_y_from, normal_z_from}
use Rattle.small_spheres.proofs.Normals.{by_normals}
use Rattle.small_spheres.proofs.ScalarProducts.{normal_with_itself, same_dot}
use Rattle.small_spheres.proofs.powers.power_of_triangle.Goals as goal

pub term-requires-clause-square : goal.term-requires-clause-square
term-requires-clause-square s = within_read w64 s.square.ensures.bound (lit< tt)

pub term-requires-clause-scalar : goal.term-requires-clause-scalar
term-requires-clause-scalar s = within_read w64 s.dot_of_normals.ensures.bound (lit< tt)

pub term-requires-2-clause-square : goal.term-requires-2-clause-square
term-requires-2-clause-square s = within_read w64 s.square-2.ensures.bound (lit< tt)

pub term-requires-2-clause-scalar : goal.term-requires-2-clause-scalar
term-requires-2-clause-scalar s = within_read w64 s.dot_of_normals-2.ensures.bound (lit< tt)

pub term-requires-3-clause-square : goal.term-requires-3-clause-square
term-requires-3-clause-square s = within_read w64 s.square-3.ensures.bound (lit< tt)

pub term-requires-3-clause-scalar : goal.term-requires-3-clause-scalar
term-requires-3-clause-scalar s = within_read w64 s.dot_of_normals-3.ensures.bound (lit< tt)

pub difference-requires-clause-p : goal.difference-requires-clause-p
difference-requires-clause-p s = within_read w128 s.term.ensures.bound (lit< tt)

pub difference-requires-clause-q : goal.difference-requires-clause-q
difference-requires-clause-q s = within_read w128 s.term-2.ensures.bound (lit< tt)

pub difference-requires-clause-r : goal.difference-requires-clause-r
difference-requires-clause-r s = within_read w128 s.term-3.ensures.bound (lit< tt)

-- the power of the point by the triangle's sphere
pub returns : goal.returns
returns s =
    let a = s.args.a in
    let b = s.args.b in
    let c = s.args.c in
    let e = s.args.e in
    let u = s.between-u.ensures in
    let v = s.between-v.ensures in
    let t = s.between-t.ensures in
    let nx = s.cross-n.ensures.x ∙ normal_x_from a b c u.y u.z v.y v.z in
    let ny = s.cross-n.ensures.y ∙ normal_y_from a b c u.z u.x v.z v.x in
    let nz = s.cross-n.ensures.z ∙ normal_z_from a b c u.x u.y v.x v.y in
    let mx = s.cross.ensures.x ∙ normal_x_from a b e u.y u.z t.y t.z in
    let my = s.cross.ensures.y ∙ normal_y_from a b e u.z u.x t.z t.x in
    let mz = s.cross.ensures.z ∙ normal_z_from a b e u.x u.y t.x t.y in
    let lx = s.cross-2.ensures.x ∙ normal_x_from a e c t.y t.z v.y v.z in
    let ly = s.cross-2.ensures.y ∙ normal_y_from a e c t.z t.x v.z v.x in
    let lz = s.cross-2.ensures.z ∙ normal_z_from a e c t.x t.y v.x v.y in
    let ae : to_z w64 (of_z w64 s.square.result) ≡ distance a e =
    read (within_fits w64 s.square.ensures.bound (lit< tt)) ∙ s.square.ensures.value ∙ distance_from a e t.x t.y t.z in
    let ac : to_z w64 (of_z w64 s.square-2.result) ≡ distance a c =
    read (within_fits w64 s.square-2.ensures.bound (lit< tt)) ∙ s.square-2.ensures.value
    ∙ distance_from a c v.x v.y v.z in
    let ab : to_z w64 (of_z w64 s.square-3.result) ≡ distance a b =
    read (within_fits w64 s.square-3.ensures.bound (lit< tt)) ∙ s.square-3.ensures.value
    ∙ distance_from a b u.x u.y u.z in
    let nn = read (within_fits w64 s.dot_of_normals.ensures.bound (lit< tt)) ∙ s.dot_of_normals.ensures.value
    ∙ same_dot nx ny nz nx ny nz ∙ normal_with_itself a b c in
    let nm = read (within_fits w64 s.dot_of_normals-2.ensures.bound (lit< tt)) ∙ s.dot_of_normals-2.ensures.value
    ∙ same_dot nx ny nz mx my mz in
    let nl = read (within_fits w64 s.dot_of_normals-3.ensures.bound (lit< tt)) ∙ s.dot_of_normals-3.ensures.value
    ∙ same_dot nx ny nz lx ly lz in
    let first = read (within_fits w128 s.term.ensures.bound (lit< tt)) ∙ s.term.ensures.value ∙ same_product ae nn in
    let second =
    read (within_fits w128 s.term-2.ensures.bound (lit< tt)) ∙ s.term-2.ensures.value ∙ same_product ac nm in
    let third =
    read (within_fits w128 s.term-3.ensures.bound (lit< tt)) ∙ s.term-3.ensures.value ∙ same_product ab nl in
    let fits : FitsSigned w128 s.difference.result = record { sfits = s.difference.type_inv } in
    read fits ∙ s.difference.ensures ∙ same_difference (same_difference first second) third ∙ sym (by_normals a b c e)
