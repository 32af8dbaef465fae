use Rattle.std.proofs.Common.{◌≡◌, ◌≢◌, ℤ, pos, w64, subst, sym, ap, ◌∙◌, to_z}
use Rattle.std.proofs.lemmas.Int.{to_z-of_z}
use Rattle.std.specs.Int.{w128, cast_unsigned}
use Rattle.std.specs.Int.RustNames.{FitsSigned}
use Rattle.whole_ring.specs.Signs.{HasSignOf}
use Rattle.point_order.specs.Heights.{out, sphere_polynomial}
use Rattle.point_order.specs.Orientation.{orientation}
use Rattle.point_order.specs.Laws.{coefficient}
use Rattle.point_order.proofs.Cited.{out_sign, sign_of_tie}
use Rattle.exact_sphere.proofs.Cited.{turned_second}
use Rattle.sphere_ties.proofs.Verdict.{verdict}
use Rattle.sphere_ties.proofs.outside.Goals as goal

-- off the plain sphere its sign decides
pub returns-then-plain-ne0 : goal.returns-then-plain-ne0
returns-then-plain-ne0 c =
    let a = c.args.a in
    let b = c.args.b in
    let p = c.args.c in
    let d = c.args.d in
    let e = c.args.e in
    let s = c.sphere-plain.result in
    let is : s ≡ sphere_polynomial a b p d e = c.sphere-plain.ensures.value in
    let side : c.orient-side.result ≡ orientation a b p d = c.orient-side.ensures.value ∙ turned_second a b p d in
    let fs : FitsSigned w128 s = record { sfits = c.sphere-plain.type_inv } in
    let fo : FitsSigned w64 c.orient-side.result = record { sfits = c.orient-side.type_inv } in
    let fq : FitsSigned w64 (orientation a b p d) = subst (FitsSigned w64) side fo in
    let ns : s ≢ pos 0 = λ z. c.if-plain-ne0.true (ap (cast_unsigned w128) z) in
    let k : HasSignOf s (out a b p d e) =
    subst (λ (v : ℤ). HasSignOf v (out a b p d e)) (sym is) (out_sign a b p d e c.key.ensures.bound
    c.key-2.ensures.bound c.key-3.ensures.bound c.key-4.ensures.bound c.key-5.ensures.bound) in
    simp (to_z-of_z, side) (verdict s (orientation a b p d) (out a b p d e) ns c.requires.independent k)

-- on it the greatest point decides whose coefficient is not 0
pub returns-else-plain-ne0 : goal.returns-else-plain-ne0
returns-else-plain-ne0 c =
    let a = c.args.a in
    let b = c.args.b in
    let p = c.args.c in
    let d = c.args.d in
    let e = c.args.e in
    let s = c.sphere-plain.result in
    let z = c.first_coefficient.result in
    let g = c.first_coefficient.ensures.0 in
    let is : z ≡ coefficient a b p d e g = c.first_coefficient.ensures.2 in
    let side : c.orient-side.result ≡ orientation a b p d = c.orient-side.ensures.value ∙ turned_second a b p d in
    let fs : FitsSigned w128 s = record { sfits = c.sphere-plain.type_inv } in
    let fz : FitsSigned w64 z = record { sfits = c.first_coefficient.type_inv } in
    let fo : FitsSigned w64 c.orient-side.result = record { sfits = c.orient-side.type_inv } in
    let fq : FitsSigned w64 (orientation a b p d) = subst (FitsSigned w64) side fo in
    let tied : sphere_polynomial a b p d e ≡ pos 0 =
    sym c.sphere-plain.ensures.value ∙ sym (to_z-of_z w128 s fs) ∙ ap (to_z w128) c.if-plain-ne0.false in
    let nz : z ≢ pos 0 = λ w. c.first_coefficient.ensures.1.0 (sym is ∙ w) in
    let k : HasSignOf z (out a b p d e) =
    subst (λ (v : ℤ). HasSignOf v (out a b p d e)) (sym is) (sign_of_tie a b p d e g c.requires.distinct tied
    c.first_coefficient.ensures.1) in
    simp (to_z-of_z, side) (verdict z (orientation a b p d) (out a b p d e) nz c.requires.independent k)
