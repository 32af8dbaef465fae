use Rattle.std.proofs.Common.{◌≡◌, ℕ, List, [], sym, ap, ◌∙◌, get_or, length, min, nat_le, rules}
use Rattle.std.specs.List.{list_any}
use Rattle.std.proofs.lemmas.List.{get_or_default}
use Rattle.point_order.specs.declared.cell.Cell.{Cell}
use Rattle.point_order.specs.declared.cell.Cell.TheVariants.{Full}
use Rattle.point_order.specs.declared.cell.Facet.{Facet}
use Rattle.point_order.specs.Facets.{facets_of}
use Rattle.face_list.specs.Tables.{cell_at}
use Rattle.alpha_complex.specs.Judged.{is_listed_around, admitted_triples}
use Rattle.alpha_complex.proofs.Leasts.{facets_least}
use Rattle.alpha_complex.proofs.covers.cell_cover_least.Goals as goal

pub returns : goal.returns
returns c a l =
    let faces = c.args.higher.now.faces.now in
    let t = λ (x : ℕ) (f : Facet). is_listed_around (admitted_triples x faces.triples) c.args.pair.now f in
    let cell = c.index-cells-number.result in
    let same : cell ≡ cell_at faces.cells c.args.number =
    c.index-cells-number.is ∙ ap (λ (v : List Cell). get_or v c.args.number cell) c.cells.ensures
    ∙ get_or_default faces.cells c.args.number cell (Full []) c.requires.number in
    let four : length c.facets-facets.result ≡ 4 = search rules in
    let facets = c.facets-facets.ensures ∙ ap facets_of same in
    ap (λ (v : List Facet). list_any (t a) v) (sym facets)
    ∙ facets_least t c.facets-facets.result c.index-facets-0.result c.index-facets-1.result c.index-facets-2.result
    c.index-facets-3.result c.facet_least-first.result c.facet_least-second.result c.facet_least-third.result
    c.facet_least-fourth.result four c.facet_least-first.ensures c.facet_least-second.ensures
    c.facet_least-third.ensures c.facet_least-fourth.ensures a l
    ∙ ap (λ n. nat_le n a) (sym (c.min-3.ensures
    ∙ ap (λ n. min c.facet_least-first.result n)
    (c.min-2.ensures ∙ ap (λ n. min c.facet_least-second.result n) c.min.ensures)))
