use Rattle.std.proofs.Common.{refl, sym, ◌∙◌, ap, subst, List, ℕ, ◌∷◌, ◌++◌, [], append-nil}
use Rattle.std.proofs.lemmas.List.{append_assoc}
use Rattle.nearest_points.specs.Points.{IsFirstOf}
use Rattle.nearest_points.proofs.Cited.{first_joined}
use Rattle.linked_mesh.proofs.Neighbours.{first_alone}
use Rattle.linked_mesh.proofs.near.first_of_all.Goals as goal

pub loop-x-init : goal.loop-x-init
loop-x-init c = ([], refl, first_alone c.args.q c.args.p)

-- one more is looked at
pub loop-x-preserved : goal.loop-x-preserved
loop-x-preserved c =
    let i = c.loop-x.invariant in
    let x = c.in-Some.x.now in (
      i.0 ++ x ∷ [],
      i.1 ∙ ap (λ (l : List ℕ). i.0 ++ l) c.in-Some.ensures.steps ∙ sym (append_assoc i.0 (x ∷ []) c.next.new.self),
      first_joined c.args.q c.args.p i.0 (x ∷ []) c.loop-x.first c.first_among-first.result i.2
          c.first_among-first.ensures,
    )

pub returns : goal.returns
returns c =
    let i = c.loop-x.invariant in
    let all = sym c.into_iter-x-iterator.ensures.into_iter_gives.0 ∙ i.1
    ∙ ap (λ (l : List ℕ). i.0 ++ l) c.in-None.ensures.steps.0 ∙ append-nil i.0 in
    subst (λ (l : List ℕ). IsFirstOf c.args.q (c.args.p ∷ l) c.loop-x.first) (sym all) i.2
