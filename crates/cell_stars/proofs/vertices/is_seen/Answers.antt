use Rattle.std.proofs.Common.{◌≡◌, ◌∙◌, ℕ, true, eqb, sym, subst, arith}
use Rattle.std.proofs.lemmas.Bool.Decides.{nat_tests}
use Rattle.list_laws.proofs.Cited.{at_place}
use Rattle.point_order.specs.Sets.{IsIn}
use Rattle.cell_stars.proofs.vertices.is_seen.Goals as goal

same : (n m : ℕ) → eqb n m ≡ true → n ≡ m
same n m = grind (arith, nat_tests)

pub returns : goal.returns
returns c t =
    subst (λ (q : ℕ). IsIn q c.args.list.now) (same c.index-list-at.result c.args.p (sym c.eq.ensures ∙ t))
    (at_place c.args.list.now c.from-at.result c.index-list-at.result c.index-list-at.result c.if-at-list.false
    c.index-list-at.is)
