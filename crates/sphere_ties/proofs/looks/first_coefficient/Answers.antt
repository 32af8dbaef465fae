use Rattle.std.proofs.Common.{◌≡◌, ℕ, ◌≤◌, pos, sym, ◌∙◌, ap, subst, w64, to_z}
use Rattle.std.proofs.lemmas.Int.{to_z-of_z}
use Rattle.std.specs.Int.{cast_unsigned}
use Rattle.std.specs.Int.RustNames.{FitsSigned}
use Rattle.point_order.specs.Laws.{coefficient}
use Rattle.sphere_ties.proofs.Passed.{last_below, passed_above, passed_from}
use Rattle.sphere_ties.proofs.looks.first_coefficient.Goals as goal

pub highest-at-requires : goal.highest-at-requires
highest-at-requires c =
    last_below c.args.a c.args.b c.args.c c.args.d c.args.e c.looks.limit c.requires.distinct c.requires.independent
    c.looks.invariant

pub returns-then-found-ne0 : goal.returns-then-found-ne0
returns-then-found-ne0 c =
    let z = c.coefficient_of-found.result in
    let f : FitsSigned w64 z = record { sfits = c.coefficient_of-found.type_inv } in
    let e : z ≡ coefficient c.args.a c.args.b c.args.c c.args.d c.args.e c.highest-at.result =
    c.coefficient_of-found.ensures in (
      c.highest-at.result,
      (
        λ n. c.if-found-ne0.true (ap (cast_unsigned w64) (e ∙ n)),
        passed_above c.args.a c.args.b c.args.c c.args.d c.args.e c.highest-at.result c.looks.limit
            c.highest-at.ensures.most c.looks.invariant,
      ),
      to_z-of_z w64 z f ∙ e,
    )

pub looks-preserved : goal.looks-preserved
looks-preserved c =
    let z = c.coefficient_of-found.result in
    let f : FitsSigned w64 z = record { sfits = c.coefficient_of-found.type_inv } in
    let none : z ≡ pos 0 = sym (to_z-of_z w64 z f) ∙ ap (to_z w64) c.if-found-ne0.false in
    let limit : c.key-limit.result ≡ c.highest-at.result = c.key-limit.ensures.value in
    λ q l. passed_from c.args.a c.args.b c.args.c c.args.d c.args.e c.highest-at.result c.looks.limit
    c.highest-at.ensures.most c.looks.invariant (sym c.coefficient_of-found.ensures ∙ none) q
    (subst (λ (v : ℕ). v ≤ q) limit l)
