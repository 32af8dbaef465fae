use Rattle.std.proofs.Common.{◌≡◌, subst}
use Rattle.std.specs.Prelude.{ℕ, List, Ok}
use Rattle.mesh_check.specs.declared.flaw.Verdict.TheVariants.{Bad as IsBad}
use Rattle.mesh_check.specs.declared.flaw.Flaw.{Flaw as FlawParts}
use Rattle.mesh_check.specs.Flaws.{as_cells, IsComplex}
use Rattle.mesh_check.specs.Laws.{IsFlaw}
use Rattle.mesh_check.proofs.judging.check.Goals as goal

-- what is told of the packed cells is told of the cells
pub returns-clause-bad : goal.returns-clause-bad
returns-clause-bad c =
    subst (λ (l : List (List ℕ)). (flaw : FlawParts) → c.check_beside.result ≡ Ok (IsBad flaw) →
    IsFlaw c.args.points.now (as_cells l c.args.hull.now) flaw
    × (IsComplex c.args.points.now (as_cells l c.args.hull.now) → ⊥)) c.in_ok-list.ensures c.check_beside.ensures.bad
