use Rattle.std.proofs.Common.{sym, ◌∙◌, ap, subst, List, ℕ}
use Rattle.point_order.specs.Solid.{is_solid}
use Rattle.gift_wrap.specs.Near.{AreTaken}
use Rattle.gift_wrap.proofs.Cited.{enough, rest_flat}
use Rattle.star_refill.proofs.Holes.{hole_filled}
use Rattle.star_refill.proofs.coming.cells_for_star.Goals as goal

pub returns-then-not-is_solid : goal.returns-then-not-is_solid
returns-then-not-is_solid c s k across =
    rest_flat s c.args.v k.is_set k.has_v c.args.star.now k.star_is c.args.around.now k.listed k.among
    c.in_ok-near.near.items c.in_ok-near.ensures across
    (ap is_solid (sym c.deref.ensures.value) ∙ sym c.is_solid.ensures ∙ c.if-not-is_solid.true)

pub cells_coming-requires : goal.cells_coming-requires
cells_coming-requires c =
    let r = c.requires.around in
    let k = r.1 in
    record {
      set = r.0;
      is_set = k.is_set;
      has_v = k.has_v;
      link = rw c.deref-2.ensures.value (enough r.0 c.args.v k.is_set k.has_v c.args.star.now k.star_is
          c.args.around.now k.listed k.among c.in_ok-near.near.items c.in_ok-near.ensures
          (ap is_solid (sym c.deref.ensures.value) ∙ sym c.is_solid.ensures ∙ c.if-not-is_solid.false));
      star_is = k.star_is;
    }

pub returns : goal.returns
returns c s k =
    hole_filled s c.args.v k.is_set k.has_v c.in_ok-near.near.items
    (enough s c.args.v k.is_set k.has_v c.args.star.now k.star_is c.args.around.now k.listed k.among
    c.in_ok-near.near.items c.in_ok-near.ensures
    (ap is_solid (sym c.deref.ensures.value) ∙ sym c.is_solid.ensures ∙ c.if-not-is_solid.false))
    c.args.star.now c.in_ok-cells.cells.items k.star_is c.requires.once
    (subst (λ (t : List ℕ). AreTaken t c.args.v c.in_ok-cells.cells.items) c.deref-2.ensures.value
    c.in_ok-cells.ensures)
