use Rattle.std.proofs.Common.{◌∙◌, List, [], ℕ, ap, length, subst}
use Rattle.std.proofs.lemmas.List.{length-map}
use Rattle.point_order.specs.declared.cell.Cell.{Cell}
use Rattle.alpha_complex.specs.Judged.{is_admitted_triple}
use Rattle.alpha_complex.specs.Leasts.{IsLeastOf, face_at}
use Rattle.alpha_complex.proofs.Leasts.{zip_written}
use Rattle.alpha_complex.proofs.alone.leasts_of_triples.Goals as goal

pub returns : goal.returns
returns c =
    let triples = c.args.faces.now.triples in
    let many = ap length c.triples.ensures ∙ length-map triples (λ (f : List ℕ × List Cell). f.0) in
    zip_written (λ x n. IsLeastOf (λ a. is_admitted_triple a x) n) ([], []) 0 triples _ _ _ _
    c.deref_mut.ensures.value c.deref_mut.ensures.len (c.in_ok-leasts.ensures.len ∙ many) c.each_in_turn.auto.s (λ i l.
    let at = (c.each_in_turn.ensures i 0 l).1 in
    subst (IsLeastOf (λ a. is_admitted_triple a (face_at triples i))) at.left at.call)
