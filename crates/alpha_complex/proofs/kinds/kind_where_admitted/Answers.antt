use Rattle.std.proofs.Common.{◌≡◌, ◌∙◌, [], ap, sym, nat_le, true, false, refl, arith}
use Rattle.std.specs.Prelude.{Some}
use Rattle.list_laws.proofs.Cited.{length_zip}
use Rattle.alpha_complex.specs.Kinds.{admits, faces_of_part}
use Rattle.alpha_complex.specs.Leasts.{IsLeastOf, face_at}
use Rattle.alpha_complex.proofs.KindSteps.{le_false, le_true}
use Rattle.alpha_complex.proofs.Leasts.{zip_at}
use Rattle.alpha_complex.proofs.kinds.kind_where_admitted.Goals as goal

pub number_at-requires : goal.number_at-requires
number_at-requires c =
    let faces = c.args.level.now.faces.now in
    let part = c.args.part in
    let e = length_zip (λ x n. IsLeastOf (λ a. admits part faces a x) n) (faces_of_part part faces) c.args.leasts.now
    c.requires.leasts in
    let h = c.requires.index in
    omega (arith, e, h)

pub returns-then-number_at-level : goal.returns-then-number_at-level
returns-then-number_at-level c =
    let level = c.args.level.now in
    let faces = level.faces.now in
    let part = c.args.part in
    let z = zip_at (λ x n. IsLeastOf (λ a. admits part faces a x) n)
    (faces_of_part part faces) c.args.leasts.now c.args.index
    ([], []) 0 c.requires.leasts c.requires.index in
    let e : admits part faces level.alpha (face_at (faces_of_part part faces) c.args.index) ≡ true =
    z level.alpha c.requires.level.alpha ∙ ap (λ n. nat_le n level.alpha) (sym c.number_at.ensures)
    ∙ le_true c.number_at.result level.alpha (omega (arith, c.if-number_at-level.true)) in
    rw e (ap Some c.kind_of_face.ensures)

pub returns-else-number_at-level : goal.returns-else-number_at-level
returns-else-number_at-level c =
    let level = c.args.level.now in
    let faces = level.faces.now in
    let part = c.args.part in
    let z = zip_at (λ x n. IsLeastOf (λ a. admits part faces a x) n)
    (faces_of_part part faces) c.args.leasts.now c.args.index
    ([], []) 0 c.requires.leasts c.requires.index in
    let e : admits part faces level.alpha (face_at (faces_of_part part faces) c.args.index) ≡ false =
    z level.alpha c.requires.level.alpha ∙ ap (λ n. nat_le n level.alpha) (sym c.number_at.ensures)
    ∙ le_false c.number_at.result level.alpha (omega (arith, c.if-number_at-level.false)) in
    rw e refl
