use Rattle.std.proofs.Common.{sym, ap, ◌∙◌}
use Rattle.std.specs.Prelude.{◌&&◌}
use Rattle.face_list.specs.Tables.{cells_numbered}
use Rattle.alpha_complex.specs.Admitted.{is_within}
use Rattle.alpha_complex.specs.Judged.{is_small_by}
use Rattle.alpha_complex.proofs.Leasts.{never_least}
use Rattle.alpha_complex.proofs.owns.own_least.Goals as goal

pub returns-then-is_gabriel_beside : goal.returns-then-is_gabriel_beside
returns-then-is_gabriel_beside c a l =
    ap (λ b. b && is_within a c.args.face.now) (sym c.is_gabriel_beside.ensures ∙ c.if-is_gabriel_beside.true)
    ∙ c.within_least.ensures a l

pub returns-else-is_gabriel_beside : goal.returns-else-is_gabriel_beside
returns-else-is_gabriel_beside c a l =
    let face = c.args.face.now in
    let beside = cells_numbered c.args.cells.now c.args.around.now in
    never_least (λ n. is_small_by n (face, beside))
    (λ n h. ap (λ b. b && is_within n face) (sym c.is_gabriel_beside.ensures ∙ c.if-is_gabriel_beside.false)) a l
