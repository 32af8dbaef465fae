use Rattle.std.proofs.Common.{sym, ◌∙◌, ap, subst}
use Rattle.point_order.specs.Solid.{is_solid}
use Rattle.cell_store.proofs.Cited.{solid_set}
use Rattle.gift_wrap.specs.Near.{ArePointsBut}
use Rattle.gift_wrap.proofs.Cited.{enough, rest_flat, has_across, around_listed}
use Rattle.vertex_removal.proofs.near.near_set.Goals as goal

pub returns-then-is_solid : goal.returns-then-is_solid
returns-then-is_solid c h st m k =
    enough h c.args.v (solid_set c.args.hold.now h st).set m c.args.star.now k c.args.star.now (λ q j. ((k q).0 j).0)
    (λ q j. j) c.in_ok-link.link.items c.in_ok-link.ensures
    (ap is_solid (sym c.deref.ensures.value) ∙ sym c.is_solid.ensures ∙ c.if-is_solid.true)

pub returns-then-is_solid-2 : goal.returns-then-is_solid-2
returns-then-is_solid-2 c h st m k =
    let a = c.in_ok-around.ensures h st k in
    enough h c.args.v (solid_set c.args.hold.now h st).set m c.args.star.now k c.in_ok-around.around.items
    (around_listed h c.args.v c.args.star.now c.in_ok-around.around.items k a) a.kept c.in_ok-near.near.items
    (subst (λ l. ArePointsBut l c.args.v c.in_ok-near.near.items) c.deref-2.ensures.value c.in_ok-near.ensures)
    (ap is_solid (sym c.deref-3.ensures.value) ∙ sym c.is_solid-2.ensures ∙ c.if-is_solid-2.true)

pub returns : goal.returns
returns c h st m k =
    let a = c.in_ok-around.ensures h st k in
    rest_flat h c.args.v (solid_set c.args.hold.now h st).set m c.args.star.now k c.in_ok-around.around.items
    (around_listed h c.args.v c.args.star.now c.in_ok-around.around.items k a) a.kept c.in_ok-near.near.items
    (subst (λ l. ArePointsBut l c.args.v c.in_ok-near.near.items) c.deref-2.ensures.value c.in_ok-near.ensures)
    (has_across h c.args.v c.args.star.now c.in_ok-around.around.items k a)
    (ap is_solid (sym c.deref-3.ensures.value) ∙ sym c.is_solid-2.ensures ∙ c.if-is_solid-2.false)
