use Rattle.std.proofs.Common.{◌<◌, ◌^◌, ◌≡◌, ◌∙◌, arith, ℤ, sym, lit<, w64, to_z, of_z}
use Rattle.std.specs.Int.{w128}
use Rattle.std.specs.Int.RustNames.{unsigned_abs}
use Rattle.whole_ring.specs.Bounds.{IsWithin}
use Rattle.whole_ring.proofs.Cited.{read, same_difference, same_product, same_sum, within_as, within_fits, within_read}
use Rattle.point_order.specs.Orientation.{orientation, distance}
use Rattle.point_order.proofs.Cited.{distance_from, orientation_from, sphere_from_first}
use Rattle.exact_sphere.specs.Sizes.{greatest_sphere}
use Rattle.exact_sphere.proofs.Turned.{turned_second}
use Rattle.exact_sphere.proofs.sphere.Goals as goal

below : {x : ℤ} → IsWithin greatest_sphere x → unsigned_abs x < 2 ^ 77
below h = omega (arith, h.size)

pub term-requires-clause-orientation : goal.term-requires-clause-orientation
term-requires-clause-orientation s = within_read w64 s.triple.ensures.bound (lit< tt)

pub term-requires-clause-square : goal.term-requires-clause-square
term-requires-clause-square s = within_read w64 s.square.ensures.bound (lit< tt)

pub term-requires-2-clause-orientation : goal.term-requires-2-clause-orientation
term-requires-2-clause-orientation s = within_read w64 s.triple-2.ensures.bound (lit< tt)

pub term-requires-2-clause-square : goal.term-requires-2-clause-square
term-requires-2-clause-square s = within_read w64 s.square-2.ensures.bound (lit< tt)

pub term-requires-3-clause-orientation : goal.term-requires-3-clause-orientation
term-requires-3-clause-orientation s = within_read w64 s.triple-3.ensures.bound (lit< tt)

pub term-requires-3-clause-square : goal.term-requires-3-clause-square
term-requires-3-clause-square s = within_read w64 s.square-3.ensures.bound (lit< tt)

pub term-requires-4-clause-orientation : goal.term-requires-4-clause-orientation
term-requires-4-clause-orientation s = within_read w64 s.triple-4.ensures.bound (lit< tt)

pub term-requires-4-clause-square : goal.term-requires-4-clause-square
term-requires-4-clause-square s = within_read w64 s.square-4.ensures.bound (lit< tt)

pub alternating-requires-clause-p : goal.alternating-requires-clause-p
alternating-requires-clause-p s = within_read w128 s.term.ensures.bound (lit< tt)

pub alternating-requires-clause-q : goal.alternating-requires-clause-q
alternating-requires-clause-q s = within_read w128 s.term-2.ensures.bound (lit< tt)

pub alternating-requires-clause-r : goal.alternating-requires-clause-r
alternating-requires-clause-r s = within_read w128 s.term-3.ensures.bound (lit< tt)

pub alternating-requires-clause-s : goal.alternating-requires-clause-s
alternating-requires-clause-s s = within_read w128 s.term-4.ensures.bound (lit< tt)

-- what is computed from steps is the in-sphere polynomial
pub returns-clause-value : goal.returns-clause-value
returns-clause-value s =
    let a = s.args.a in
    let b = s.args.b in
    let c = s.args.c in
    let d = s.args.d in
    let e = s.args.e in
    let u = s.between-u.ensures in
    let v = s.between-v.ensures in
    let w = s.between-w.ensures in
    let t = s.between-t.ensures in
    let bcd : to_z w64 (of_z w64 s.triple.result) ≡ orientation a b c d =
    read (within_fits w64 s.triple.ensures.bound (lit< tt)) ∙ s.triple.ensures.value
    ∙ orientation_from a d b c w.x w.y w.z u.x u.y u.z v.x v.y v.z ∙ turned_second a b c d in
    let bce : to_z w64 (of_z w64 s.triple-2.result) ≡ orientation a b c e =
    read (within_fits w64 s.triple-2.ensures.bound (lit< tt)) ∙ s.triple-2.ensures.value
    ∙ orientation_from a e b c t.x t.y t.z u.x u.y u.z v.x v.y v.z ∙ turned_second a b c e in
    let bde : to_z w64 (of_z w64 s.triple-3.result) ≡ orientation a b d e =
    read (within_fits w64 s.triple-3.ensures.bound (lit< tt)) ∙ s.triple-3.ensures.value
    ∙ orientation_from a b d e u.x u.y u.z w.x w.y w.z t.x t.y t.z in
    let cde : to_z w64 (of_z w64 s.triple-4.result) ≡ orientation a c d e =
    read (within_fits w64 s.triple-4.ensures.bound (lit< tt)) ∙ s.triple-4.ensures.value
    ∙ orientation_from a c d e v.x v.y v.z w.x w.y w.z t.x t.y t.z in
    let ae : to_z w64 (of_z w64 s.square.result) ≡ distance a e =
    read (within_fits w64 s.square.ensures.bound (lit< tt)) ∙ s.square.ensures.value ∙ distance_from a e t.x t.y t.z in
    let ad : to_z w64 (of_z w64 s.square-2.result) ≡ distance a d =
    read (within_fits w64 s.square-2.ensures.bound (lit< tt)) ∙ s.square-2.ensures.value
    ∙ distance_from a d w.x w.y w.z in
    let ac : to_z w64 (of_z w64 s.square-3.result) ≡ distance a c =
    read (within_fits w64 s.square-3.ensures.bound (lit< tt)) ∙ s.square-3.ensures.value
    ∙ distance_from a c v.x v.y v.z in
    let ab : to_z w64 (of_z w64 s.square-4.result) ≡ distance a b =
    read (within_fits w64 s.square-4.ensures.bound (lit< tt)) ∙ s.square-4.ensures.value
    ∙ distance_from a b u.x u.y u.z in
    let p = read (within_fits w128 s.term.ensures.bound (lit< tt)) ∙ s.term.ensures.value ∙ same_product bcd ae in
    let q = read (within_fits w128 s.term-2.ensures.bound (lit< tt)) ∙ s.term-2.ensures.value ∙ same_product bce ad in
    let r = read (within_fits w128 s.term-3.ensures.bound (lit< tt)) ∙ s.term-3.ensures.value ∙ same_product bde ac in
    let l = read (within_fits w128 s.term-4.ensures.bound (lit< tt)) ∙ s.term-4.ensures.value ∙ same_product cde ab in
    read (within_fits w128 s.alternating.ensures.bound (lit< tt)) ∙ s.alternating.ensures.value
    ∙ same_difference (same_sum (same_difference p q) r) l ∙ sym (sphere_from_first a b c d e)

pub returns-clause-bound : goal.returns-clause-bound
returns-clause-bound s =
    below (within_as (read (within_fits w128 s.alternating.ensures.bound (lit< tt))) s.alternating.ensures.bound)
