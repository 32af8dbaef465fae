use Rattle.std.proofs.Common.{◌≡◌, ◌∙◌, ℕ, true, eqb, sym, subst, arith}
use Rattle.std.proofs.lemmas.Bool.Decides.{nat_tests}
use Rattle.list_laws.proofs.Cited.{at_place}
use Rattle.point_order.specs.Sets.{IsIn}
use Rattle.gift_wrap.proofs.near.is_seen.Goals as goal

-- numbers whose test says so are equal
same : (n m : ℕ) → eqb n m ≡ true → n ≡ m
same n m = grind (arith, nat_tests)

pub returns : goal.returns
returns c t =
    subst (λ (q : ℕ). IsIn q c.args.points.now) (same c.index-points-at.result c.args.p (sym c.eq.ensures ∙ t))
    (at_place c.args.points.now c.from-at.result c.index-points-at.result c.index-points-at.result
    c.if-at-points.false c.index-points-at.is)
