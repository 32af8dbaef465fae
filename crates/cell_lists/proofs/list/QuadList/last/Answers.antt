use Rattle.std.proofs.Common.{◌∙◌, ◌∷◌, inl, refl, subst, sym, List, []}
use Rattle.list_laws.proofs.Cited.{in_right}
use Rattle.list_laws.specs.Lists.{IsIn}
use Rattle.cell_lists.specs.declared.known.Row.{Row}
use Rattle.cell_lists.proofs.list.QuadList.last.Goals as goal

pub quad_in-requires : goal.quad_in-requires
quad_in-requires c =
    let row = c.in-Some.row.now in
    rw c.deref-in-Some.ensures.value
    (c.self.invariant row
    (subst (λ (l : List Row). IsIn row l) (sym c.in-Some.ensures.cases.0 ∙ c.deref.ensures.value)
    (in_right row c.in-Some.field-0-1.now (row ∷ []) (inl refl))))
