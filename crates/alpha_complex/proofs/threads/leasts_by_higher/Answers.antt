use Rattle.std.proofs.Common.{◌∙◌, List, [], ℕ, ap, length, subst}
use Rattle.std.proofs.lemmas.List.{length-map}
use Rattle.point_order.specs.declared.cell.Cell.{Cell}
use Rattle.alpha_complex.specs.Judged.{is_admitted_pair}
use Rattle.alpha_complex.specs.Leasts.{IsLeastOf, face_at}
use Rattle.alpha_complex.proofs.Leasts.{zip_written}
use Rattle.alpha_complex.proofs.threads.leasts_by_higher.Goals as goal

pub returns : goal.returns
returns g c =
    let faces = c.args.higher.now.faces.now in
    let many = ap length c.pairs.ensures ∙ length-map faces.pairs (λ (f : List ℕ × List Cell). f.0) in
    zip_written (λ x n. IsLeastOf (λ a. is_admitted_pair faces.triples a x) n) ([], []) 0 faces.pairs _ _ _ _
    c.deref_mut.ensures.value c.deref_mut.ensures.len (c.in_ok-leasts.ensures.len ∙ many)
    c.par_for_each_mut.auto.s (λ i l.
    let at = (c.par_for_each_mut.ensures i 0 l).1 in
    subst (IsLeastOf (λ a. is_admitted_pair faces.triples a (face_at faces.pairs i))) at.left at.call)
