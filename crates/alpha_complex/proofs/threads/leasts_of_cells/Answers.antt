use Rattle.std.proofs.Common.{[], subst}
use Rattle.point_order.specs.declared.cell.Cell.TheVariants.{Full}
use Rattle.face_list.specs.Tables.{cell_at}
use Rattle.alpha_complex.specs.Judged.{is_small_cell}
use Rattle.alpha_complex.specs.Leasts.{IsLeastOf}
use Rattle.alpha_complex.proofs.Leasts.{zip_written}
use Rattle.alpha_complex.proofs.threads.leasts_of_cells.Goals as goal

pub returns : goal.returns
returns g c =
    let cells = c.args.cells.now in
    zip_written (λ x n. IsLeastOf (λ a. is_small_cell a x) n) (Full []) 0 cells _ _ _ _
    c.deref_mut.ensures.value c.deref_mut.ensures.len c.in_ok-leasts.ensures.len c.par_for_each_mut.auto.s (λ i l.
    let at = (c.par_for_each_mut.ensures i 0 l).1 in
    subst (IsLeastOf (λ a. is_small_cell a (cell_at cells i))) at.left at.call)
