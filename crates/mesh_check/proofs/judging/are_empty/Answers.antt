use Rattle.std.specs.Prelude.{◌≡◌, [], MatchBool}
use Rattle.std.proofs.Common.{◌∙◌, sym, subst}
use Rattle.mesh_check.specs.Flaws.{as_cells}
use Rattle.mesh_check.proofs.Verdicts.{not_empty}
use Rattle.mesh_check.proofs.judging.are_empty.Goals as goal

pub returns-else-is_empty : goal.returns-else-is_empty
returns-else-is_empty c =
    subst (λ b. MatchBool b (as_cells c.args.cells.now c.args.hull.now
    ≡ []) (as_cells c.args.cells.now c.args.hull.now ≡ []
    → ⊥)) (sym c.if-is_empty.false)
    (not_empty c.args.cells.now c.args.hull.now (sym c.is_empty.ensures ∙ c.if-is_empty.false))
