use Rattle.std.proofs.Common.{◌≢◌, ◌∙◌, ap, sym, subst, ℤ, pos}
use Rattle.std.specs.Int.{w128, cast_unsigned}
use Rattle.std.specs.Int.Signed.{lt_z}
use Rattle.std.specs.Int.RustNames.{FitsSigned}
use Rattle.whole_ring.specs.Signs.{HasSignOf}
use Rattle.whole_ring.proofs.Cited.{read}
use Rattle.point_order.specs.Heights.{out}
use Rattle.point_order.specs.Orientation.{orientation}
use Rattle.point_order.proofs.Cited.{out_sign}
use Rattle.gift_wrap.proofs.Balls.{by_sign}
use Rattle.gift_wrap.proofs.ball.Ball.has_outside.Goals as goal

-- off the plain sphere its sign decides
pub returns-then-value-ne0 : goal.returns-then-value-ne0
returns-then-value-ne0 c =
    let a = c.args.a in
    let b = c.args.b in
    let p = c.args.c in
    let d = c.args.self.now.last in
    let e = c.args.e in
    let s = c.at-value.result in
    let fits : FitsSigned w128 s = record { sfits = c.at-value.type_inv } in
    let apart : s ≢ pos 0 = λ z. c.if-value-ne0.true (ap (cast_unsigned w128) z) in
    let k : HasSignOf s (out a b p d e) =
    subst (λ (v : ℤ). HasSignOf v (out a b p d e)) (sym c.at-value.ensures) (out_sign a b p d e c.key.ensures.bound
    c.key-2.ensures.bound c.key-3.ensures.bound c.key-4.ensures.bound c.key-5.ensures.bound) in
    ap (lt_z (pos 0)) (read fits) ∙ by_sign s (orientation a b p d) (out a b p d e) apart c.requires.ball.above k
