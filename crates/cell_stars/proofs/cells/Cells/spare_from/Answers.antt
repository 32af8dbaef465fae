use Rattle.std.proofs.Common.{ap, arith, subst, ◌∙◌, List, ℕ}
use Rattle.cell_stars.specs.Moves.{IsSpare}
use Rattle.cell_stars.proofs.cells.Cells.spare_from.Goals as goal

pub returns-in-Some : goal.returns-in-Some
returns-in-Some c = (
  c.in-Some.ensures.0,
  subst (λ (l : List (ℕ × List ℕ)). IsSpare l c.in-Some.n) (c.deref.ensures.value ∙ ap (λ v. v.stars) c.self.view_is)
      c.in-Some.ensures.1,
)

pub returns : goal.returns
returns c = (
  (let h = c.in_ok-n.ensures.0 in let m = c.max.ensures in omega (arith, h, m)),
  subst (λ (l : List (ℕ × List ℕ)). IsSpare l c.in_ok-n.n) (c.deref-2.ensures.value ∙ ap (λ v. v.stars) c.self.view_is)
      c.in_ok-n.ensures.1,
)
