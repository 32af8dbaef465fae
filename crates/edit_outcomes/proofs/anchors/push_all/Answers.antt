use Rattle.std.proofs.Common.{◌++◌, ◌∙◌, ◌∷◌, [], List, ap, inl, inr, subst, sym, ℕ}
use Rattle.std.proofs.lemmas.List.{append_assoc}
use Rattle.list_laws.proofs.Cited.{in_snoc}
use Rattle.point_order.specs.Sets.{IsIn}
use Rattle.edit_outcomes.proofs.anchors.push_all.Goals as goal

-- one more is looked at
pub loop-p-preserved : goal.loop-p-preserved
loop-p-preserved c =
    let i = c.loop-p.invariant in
    let p = c.in-Some.p.now in
    record {
      there = λ t are of. c.in_ok-push_there.ensures.there t are (i.there t are of);
      kept = λ q m. c.in_ok-push_there.ensures.kept q (i.kept q m);
      pushed = (
        i.pushed.0 ++ p ∷ [],
        i.pushed.1 ∙ ap (λ (l : List ℕ). i.pushed.0 ++ l) c.in-Some.ensures.steps
            ∙ sym (append_assoc i.pushed.0 (p ∷ []) c.next.new.self),
        λ t are q n m. elim (in_snoc i.pushed.0 p q m) [
          | inl k ↦ c.in_ok-push_there.ensures.kept q (i.pushed.2 t are q n k)
          | inr e ↦ subst (λ (r : ℕ). IsIn r c.push_there.new.list.items) e
              (c.in_ok-push_there.ensures.pushed t are (subst (λ (r : ℕ). IsIn r t) (sym e) n))
        ],
      );
    }
