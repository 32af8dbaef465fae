use Rattle.std.proofs.Common.{◌∙◌}
use Rattle.list_laws.proofs.Cited.{on_err}
use Rattle.cell_lists.proofs.Numbers.{cell_more, cells_stay, row_more, rows_stay}
use Rattle.cell_lists.proofs.list.QuadList.push.Goals as goal

pub invariant_of-self : goal.invariant_of-self
invariant_of-self c =
    rows_stay c.self.inside.points.items c.row_in.new.points.items c.self.inside.rows.items c.in_err-row.ensures.more
    c.self.invariant

pub invariant_of-self-in_err-push : goal.invariant_of-self-in_err-push
invariant_of-self-in_err-push c =
    rw c.in_err-push.ensures.items
    (rows_stay c.self.inside.points.items c.row_in.new.points.items c.self.inside.rows.items c.in_ok-row.ensures.more
    c.self.invariant)

pub invariant_of-self-2 : goal.invariant_of-self-2
invariant_of-self-2 c =
    rw c.in_ok-push.ensures.items
    (row_more c.row_in.new.points.items c.self.inside.rows.items c.in_ok-row.row
    (rows_stay c.self.inside.points.items c.row_in.new.points.items c.self.inside.rows.items c.in_ok-row.ensures.more
    c.self.invariant) c.in_ok-row.ensures.row.0)

pub returns-clause-pushed : goal.returns-clause-pushed
returns-clause-pushed c =
    rw (← c.self.view_is, c.in_ok-push.ensures.items)
    (cell_more c.self.inside.points.items c.row_in.new.points.items c.self.inside.rows.items c.in_ok-row.row
    c.args.quad c.in_ok-row.ensures.more c.self.invariant c.in_ok-row.ensures.row.1)

pub returns-in_err-row-clause-refused : goal.returns-in_err-row-clause-refused
returns-in_err-row-clause-refused c =
    on_err c.from_residual.result
    (cells_stay c.self.inside.points.items c.row_in.new.points.items c.self.inside.rows.items c.in_err-row.ensures.more
    c.self.invariant ∙ c.self.view_is)

pub returns-in_err-push-clause-refused : goal.returns-in_err-push-clause-refused
returns-in_err-push-clause-refused c =
    on_err c.from_residual-in_err-push.result (rw c.in_err-push.ensures.items
    (cells_stay c.self.inside.points.items c.row_in.new.points.items c.self.inside.rows.items c.in_ok-row.ensures.more
    c.self.invariant ∙ c.self.view_is))
