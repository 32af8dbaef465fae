use Rattle.std.proofs.Common.{map, subst, sym}
use Rattle.std.specs.List.{list_all, list_any}
use Rattle.face_list.specs.Seen.{FaceLists}
use Rattle.point_order.specs.Complex.{complex}
use Rattle.alpha_complex.specs.Admitted.{is_admitted_cell}
use Rattle.alpha_complex.specs.Judged.{is_small_cell}
use Rattle.alpha_complex.specs.Leasts.{AreLeastOf, IsLeastOf}
use Rattle.solid_parts.proofs.Few.{start_is}
use Rattle.solid_parts.proofs.least_alpha_alone.Goals as goal

pub first_compact-requires-clause-told : goal.first_compact-requires-clause-told
first_compact-requires-clause-told c s h =
    subst (AreLeastOf (is_admitted_cell s) (complex s)) (sym c.deref.ensures.value)
    (c.in_ok-known.ensures.told s h).cells

pub first_compact-requires-clause-start : goal.first_compact-requires-clause-start
first_compact-requires-clause-start c s h alpha l =
    let start = c.cover_least-start.result in
    start_is s c.args.faces.now start alpha h
    (subst (λ (v : FaceLists). IsLeastOf (λ a. list_all (list_any (is_small_cell a)) (map (λ f. f.1) v.points)) start)
    c.in_ok-known.ensures.faces c.cover_least-start.ensures) l
