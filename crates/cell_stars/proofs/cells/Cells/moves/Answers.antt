use Rattle.std.proofs.Common.{subst, ap, ◌∙◌, List, ℕ}
use Rattle.std.specs.List.{zip}
use Rattle.point_order.specs.declared.cell.Cell.{Cell}
use Rattle.point_order.specs.Sets.{IsIn}
use Rattle.cell_stars.specs.Moves.{AreComing, IsVacant}
use Rattle.cell_stars.specs.Places.{AreStars}
use Rattle.cell_stars.proofs.MoveLaws.{are_for}
use Rattle.cell_stars.proofs.cells.Cells.moves.Goals as goal

pub returns-clause-made : goal.returns-clause-made
returns-clause-made c =
    let b = c.args.self.now in
    let freed = c.in_ok-freed.freed.items in
    let coming = c.in_ok-coming.coming.items in
    let us = c.in_ok-places.places.items in
    are_for b c.deref-2.result.now c.args.gone.now c.args.fresh.now coming freed us c.in_ok-placed.placed.items
    (subst AreStars c.self.view_is c.self.invariant) (c.deref-2.ensures.value ∙ ap (λ v. v.slots) c.self.view_is)
    c.in_ok-freed.ensures.freed c.in_ok-coming.ensures.once
    (subst (λ (l : List ℕ). AreComing b l c.args.fresh.now coming) c.deref.ensures.value c.in_ok-coming.ensures.coming)
    c.in_ok-places.ensures.order (c.in_ok-places.ensures.count ∙ c.len.ensures ∙ c.in_ok-coming.coming.ok.0)
    (subst (λ (l : List ℕ). (i : ℕ) → IsIn i us → IsVacant c.deref-2.result.now l i) c.deref-3.ensures.value
    c.in_ok-places.ensures.vacant)
    (c.in_ok-placed.ensures ∙ ap (λ (l : List ℕ). zip l c.deref-5.result.now) c.deref-4.ensures.value
    ∙ ap (λ (l : List Cell). zip us l) c.deref-5.ensures.value)
