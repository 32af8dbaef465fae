use Rattle.std.proofs.Common.{ℕ, List, [], sym, subst, ◌∙◌}
use Rattle.std.specs.Prelude.{◌||◌}
use Rattle.std.specs.List.{list_any}
use Rattle.std.proofs.lemmas.List.{get_or_default}
use Rattle.point_order.specs.declared.cell.Cell.{Cell}
use Rattle.face_list.specs.Tables.{cells_numbered}
use Rattle.alpha_complex.specs.Judged.{is_admitted_triple, is_small_by, is_small_cell}
use Rattle.alpha_complex.specs.Leasts.{IsLeastOf}
use Rattle.alpha_complex.proofs.Leasts.{either_least}
use Rattle.alpha_complex.proofs.least.triple_least.Goals as goal

-- from the cells around the triple, or by itself
pub returns : goal.returns
returns c =
    let faces = c.args.faces.now in
    let around = c.triple-tri.result.1.now in
    let g : List ℕ × List Cell = (c.triple-tri.result.0, cells_numbered faces.cells around) in
    let f = c.triple-tri.ensures.face ∙ get_or_default faces.triples c.args.index g ([], []) c.requires.index in
    let small = λ (a : ℕ). list_any (is_small_cell a) g.1 in
    let itself = λ (a : ℕ). is_small_by a g in
    let told : IsLeastOf (λ a. is_small_by a (c.points.result.now, cells_numbered c.cells.result.now around))
    c.own_least-itself.result = c.own_least-itself.ensures in
    let placed = subst (λ (v : List Cell). IsLeastOf (λ a. is_small_by a (c.points.result.now, cells_numbered v around))
    c.own_least-itself.result) c.cells.ensures told in
    let mine = subst (λ (v : List ℕ). IsLeastOf (λ a. is_small_by a (v, cells_numbered faces.cells around))
    c.own_least-itself.result) c.points.ensures.points placed in
    let both = either_least small itself c.some_least-regular.result c.own_least-itself.result
    c.some_least-regular.ensures mine in
    let whole = subst (λ n. IsLeastOf (λ a. small a || itself a) n) (sym c.min.ensures) both in
    subst (λ (v : List ℕ × List Cell). IsLeastOf (λ a. is_admitted_triple a v) c.min.result) f whole
