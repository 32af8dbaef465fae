use Rattle.std.proofs.Common.{inl, inr, subst, sym}
use Rattle.list_laws.proofs.Cited.{among_from, not_among, true_or_false}
use Rattle.point_order.specs.Sets.{IsIn, is_among}
use Rattle.edit_outcomes.proofs.Changing.{to_came}
use Rattle.edit_outcomes.proofs.anchors.all_points.Goals as goal

pub returns : goal.returns
returns c = λ t are.
    let s = c.args.set.now.keys in
    let few = c.in_ok-list.ensures t are in
    let more = c.in_ok-push_moving.ensures t are few in
    let old = c.in_ok-push_all.ensures.there t are more in (
      c.in_ok-push_all-2.ensures.there t are old,
      λ q i. elim (true_or_false (is_among q s)) [
        | inl e ↦ c.in_ok-push_all-2.ensures.kept q (c.in_ok-push_all.ensures.pushed t are q i (among_from q s e))
        | inr e ↦ c.in_ok-push_all-2.ensures.pushed t are q i (subst (IsIn q) (sym c.came.ensures)
            (to_came s t q c.args.changes.now are q i (not_among s q e)))
      ],
    )
