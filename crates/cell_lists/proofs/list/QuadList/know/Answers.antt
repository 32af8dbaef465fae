use Rattle.std.proofs.Common.{◌∙◌, subst, sym, List, ℕ}
use Rattle.cell_lists.specs.Rows.{AreRows}
use Rattle.cell_lists.proofs.Numbers.{cells_stay, rows_stay}
use Rattle.cell_lists.proofs.list.QuadList.know.Goals as goal

pub invariant_of-self : goal.invariant_of-self
invariant_of-self c =
    subst (λ (v : List ℕ). AreRows v c.self.inside.rows.items) (sym c.in_err-push.ensures.items) c.self.invariant

pub invariant_of-self-2 : goal.invariant_of-self-2
invariant_of-self-2 c =
    rows_stay c.self.inside.points.items _ c.self.inside.rows.items (_, c.in_ok-push.ensures.items) c.self.invariant

pub returns : goal.returns
returns c =
    cells_stay c.self.inside.points.items _ c.self.inside.rows.items (_, c.in_ok-push.ensures.items) c.self.invariant
    ∙ c.self.view_is
