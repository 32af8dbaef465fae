use Rattle.std.proofs.Common.{ℕ, List, [], sym, subst, ap, ◌∙◌, min}
use Rattle.std.specs.Prelude.{◌||◌}
use Rattle.std.specs.List.{list_any}
use Rattle.std.proofs.lemmas.List.{get_or_default}
use Rattle.point_order.specs.declared.cell.Cell.{Cell}
use Rattle.face_list.specs.Tables.{cells_numbered}
use Rattle.alpha_complex.specs.Judged.{admitted_triples, covers, is_admitted_pair, is_small_by, is_small_cell}
use Rattle.alpha_complex.specs.Leasts.{IsLeastOf}
use Rattle.alpha_complex.proofs.Leasts.{either_least}
use Rattle.alpha_complex.proofs.least.pair_least.Goals as goal

-- from the cells around the pair, by itself, or from the triples around it
pub returns : goal.returns
returns c =
    let higher = c.args.higher.now in
    let faces = higher.faces.now in
    let g : List ℕ × List Cell = (c.pair-pair.result.0, cells_numbered faces.cells c.pair-pair.result.1.now) in
    let f = c.pair-pair.ensures.face ∙ get_or_default faces.pairs c.args.index g ([], []) c.requires.index in
    let small = λ (a : ℕ). list_any (is_small_cell a) g.1 in
    let itself = λ (a : ℕ). is_small_by a g in
    let cover = λ (a : ℕ). list_any (covers (admitted_triples a faces.triples) g.0) g.1 in
    let around = c.pair-pair.result.1.now in
    let told : IsLeastOf (λ a. is_small_by a (c.points.result.now, cells_numbered c.cells.result.now around))
    c.own_least-itself.result = c.own_least-itself.ensures in
    let placed = subst (λ (v : List Cell). IsLeastOf (λ a. is_small_by a (c.points.result.now, cells_numbered v around))
    c.own_least-itself.result) c.cells.ensures told in
    let mine = subst (λ (v : List ℕ). IsLeastOf (λ a. is_small_by a (v, cells_numbered faces.cells around))
    c.own_least-itself.result) c.points.ensures.points placed in
    let rest = either_least itself cover c.own_least-itself.result c.cover_least-cover.result mine
    c.cover_least-cover.ensures in
    let all = either_least small (λ a. itself a || cover a) c.some_least-regular.result
    (min c.own_least-itself.result c.cover_least-cover.result) c.some_least-regular.ensures rest in
    let sum = c.min-2.ensures ∙ ap (λ n. min c.some_least-regular.result n) c.min.ensures in
    let whole = subst (λ n. IsLeastOf (λ a. small a || (itself a || cover a)) n) (sym sum) all in
    subst (λ (v : List ℕ × List Cell). IsLeastOf (λ a. is_admitted_pair faces.triples a v) c.min-2.result) f whole
