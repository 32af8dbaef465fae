use Rattle.std.proofs.Common.{arith, sym, subst, ℕ, ◌≡◌}
use Rattle.text_sheets.specs.Indices.{IsBetween}
use Rattle.text_sheets.proofs.Places.{place_between}
use Rattle.text_sheets.proofs.indices.search.Goals as goal

pub returns : goal.returns
returns c =
    let b = c.loop-low.invariant in
    let e : c.loop-low.high ≡ c.loop-low.low = omega (arith, b.order, c.loop-low-test.false) in
    sym (place_between c.args.points.now c.args.key c.loop-low.low c.requires.ascending (subst (λ
    (h : ℕ). IsBetween c.args.points.now c.args.key c.loop-low.low h) e b))
