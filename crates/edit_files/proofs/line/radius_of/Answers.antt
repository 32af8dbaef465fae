use Rattle.std.proofs.Common.{◌≡◌, true, false, ltb, refl, sym, ap, ◌∙◌, arith}
use Rattle.std.proofs.lemmas.Bool.{lt-ltb, le-ltb}
use Rattle.edit_files.specs.Judging.{radius, radius_from}
use Rattle.edit_files.specs.Content.{row}
use Rattle.edit_files.proofs.line.radius_of.Goals as goal

pub returns-in-None : goal.returns-in-None
unfolding radius
returns-in-None c = ap (radius_from c.args.version) c.in-None.ensures.value

pub returns-in-Some : goal.returns-in-Some
unfolding radius
returns-in-Some c =
    let v = c.args.version in
    let e = c.row.ensures.radius_end in
    let below : ltb c.in-Some.radius (row v).radius_end ≡ true = lt-ltb _ _ (omega (arith, e, c.if-radius-row.true)) in
    sym (ap (radius_from v) (sym c.in-Some.ensures.value) ∙ rw below refl)

pub returns-in-Some-2 : goal.returns-in-Some-2
unfolding radius
returns-in-Some-2 c =
    let v = c.args.version in
    let e = c.row.ensures.radius_end in
    let above : ltb c.in-Some.radius (row v).radius_end ≡ false = le-ltb _ _ (omega (arith, e, c.if-radius-row.false))
    in
    sym (ap (radius_from v) (sym c.in-Some.ensures.value) ∙ rw above refl)
