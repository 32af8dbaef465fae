use Rattle.std.proofs.Common.{ℕ, refl, subst}
use Rattle.list_laws.proofs.Cited.{at_place, same_from}
use Rattle.point_order.specs.Sets.{IsIn}
use Rattle.cell_stars.proofs.marks.is_at_mark.Goals as goal

pub returns-then-at-list : goal.returns-then-at-list
returns-then-at-list c t =
    subst (λ (k : ℕ). IsIn k c.args.list.now) (same_from _ _ t) (at_place c.args.list.now _ _ 0 c.if-at-list.true refl)
