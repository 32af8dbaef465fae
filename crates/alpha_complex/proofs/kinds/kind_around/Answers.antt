use Rattle.std.proofs.Common.{◌≡◌, ◌∙◌, refl, true, false, arith}
use Rattle.std.specs.List.{list_all, list_any}
use Rattle.face_list.specs.Tables.{cells_numbered}
use Rattle.alpha_complex.specs.Judged.{is_small_cell}
use Rattle.alpha_complex.proofs.KindSteps.{le_false, le_true}
use Rattle.alpha_complex.proofs.kinds.kind_around.Goals as goal

pub returns-then-all_least-level : goal.returns-then-all_least-level
returns-then-all_least-level c =
    let level = c.args.level.now in
    let cells = cells_numbered level.faces.now.cells c.args.around.now in
    let all : list_all (is_small_cell level.alpha) cells ≡ true = c.all_least.ensures level.alpha c.requires.level.alpha
    ∙ le_true c.all_least.result level.alpha (omega (arith, c.if-all_least-level.true)) in
    rw all refl

pub returns-then-some_least-level : goal.returns-then-some_least-level
returns-then-some_least-level c =
    let level = c.args.level.now in
    let cells = cells_numbered level.faces.now.cells c.args.around.now in
    let all : list_all (is_small_cell level.alpha) cells ≡ false = c.all_least.ensures level.alpha
    c.requires.level.alpha
    ∙ le_false c.all_least.result level.alpha (omega (arith, c.if-all_least-level.false)) in
    let some : list_any (is_small_cell level.alpha) cells ≡ true = c.some_least.ensures level.alpha
    c.requires.level.alpha
    ∙ le_true c.some_least.result level.alpha (omega (arith, c.if-some_least-level.true)) in
    rw (all, some) refl

pub returns-else-some_least-level : goal.returns-else-some_least-level
returns-else-some_least-level c =
    let level = c.args.level.now in
    let cells = cells_numbered level.faces.now.cells c.args.around.now in
    let all : list_all (is_small_cell level.alpha) cells ≡ false = c.all_least.ensures level.alpha
    c.requires.level.alpha
    ∙ le_false c.all_least.result level.alpha (omega (arith, c.if-all_least-level.false)) in
    let some : list_any (is_small_cell level.alpha) cells ≡ false = c.some_least.ensures level.alpha
    c.requires.level.alpha
    ∙ le_false c.some_least.result level.alpha (omega (arith, c.if-some_least-level.false)) in
    rw (all, some) refl
