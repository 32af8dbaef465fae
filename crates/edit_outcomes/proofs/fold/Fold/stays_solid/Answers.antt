use Rattle.std.proofs.Common.{◌∙◌, sym}
use Rattle.std.proofs.lemmas.Option.{MatchOption-at_some}
use Rattle.edit_outcomes.proofs.Anchoring.{anchored_solid, anchors_stay}
use Rattle.edit_outcomes.proofs.fold.Fold.stays_solid.Goals as goal

pub returns-then-not-contains-clause-solid : goal.returns-then-not-contains-clause-solid
returns-then-not-contains-clause-solid c = λ s t h f are.
    let four = c.in-Some.four in
    sym (anchored_solid t four (anchors_stay c.args.self.now.anchors s t four c.args.p c.in-Some.is h
    (sym c.contains.ensures.value ∙ c.if-not-contains.true) f))

pub returns-in-Some-2-clause-solid : goal.returns-in-Some-2-clause-solid
returns-in-Some-2-clause-solid c = λ s t h f are.
    sym (anchored_solid t c.in-Some-2.four
    (MatchOption-at_some _ _ _ c.in-Some-2.is (c.in_ok-four.ensures t are)))
