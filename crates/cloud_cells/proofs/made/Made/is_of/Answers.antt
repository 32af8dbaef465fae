use Rattle.std.proofs.Common.{◌≡◌, ◌∙◌, subst, sym, List, ℕ, true}
use Rattle.std.specs.Cmp.Lexicographic.{same_text}
use Rattle.point_order.specs.Solid.{is_solid}
use Rattle.cloud_cells.proofs.made.Made.is_of.Goals as goal

pub returns-clause-points : goal.returns-clause-points
returns-clause-points c e =
    sym c.self.view_is
    ∙ sym c.as_slice.ensures.value ∙ same_text c.as_slice.result.now c.args.points.now (sym e ∙ c.eq.ensures)

pub returns-clause-solid : goal.returns-clause-solid
returns-clause-solid c e =
    subst (λ (s : List ℕ). is_solid s ≡ true)
    (sym c.as_slice.ensures.value ∙ same_text c.as_slice.result.now c.args.points.now (sym e ∙ c.eq.ensures))
    c.self.invariant.solid
