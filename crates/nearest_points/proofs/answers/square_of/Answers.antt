use Rattle.std.proofs.Common.{◌∙◌, ap, sym, subst, lit<, w64, ℕ, ℤ, pos, ◌≤ℤ◌}
use Rattle.std.specs.Prelude.{unsigned_abs}
use Rattle.whole_ring.proofs.Cited.{read, within_fits}
use Rattle.nearest_points.proofs.Order.{not_negative, size_is}
use Rattle.nearest_points.proofs.answers.square_of.Goals as goal

pub returns : goal.returns
returns c =
    ap (λ (n : ℕ). pos n) (c.unsigned_abs.ensures.value
    ∙ ap (λ (z : ℤ). unsigned_abs z) (read (within_fits w64 c.square_from.ensures.bound (lit< tt))))
    ∙ size_is c.square_from.result
    (subst (λ (z : ℤ). pos 0 ≤ℤ z) (sym c.square_from.ensures.value) (not_negative c.args.q c.args.p))
    ∙ c.square_from.ensures.value
