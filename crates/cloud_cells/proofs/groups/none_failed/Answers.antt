use Rattle.std.proofs.Common.{◌≡◌, false, inl, inr, subst, sym, List}
use Rattle.std.proofs.lemmas.List.{take_all}
use Rattle.list_laws.proofs.Cited.{in_take_more}
use Rattle.point_order.specs.Sets.{IsIn}
use Rattle.cloud_cells.specs.declared.groups.Group.{Group}
use Rattle.cloud_cells.proofs.groups.none_failed.Goals as goal

pub loop-group-preserved : goal.loop-group-preserved
loop-group-preserved c group m =
    elim (in_take_more c.args.groups.now c.loop-group.group-index c.group-item.result group c.loop-group-test.true
    c.group-item.is m) [
      | inl j ↦ c.loop-group.invariant group j
      | inr e ↦ subst (λ (g : Group). g.has_failed ≡ false) e c.if-group.false
    ]

pub returns : goal.returns
returns c group m =
    c.loop-group.invariant group (subst (λ (l : List Group). IsIn group l)
    (sym (take_all c.loop-group.group-index c.args.groups.now c.loop-group-test.false)) m)
