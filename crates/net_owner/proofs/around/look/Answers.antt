use Rattle.std.proofs.Common.{refl, inl, sym, subst, List, ◌<◌, length, arith}
use Rattle.list_laws.proofs.Cited.{at_place, in_left}
use Rattle.point_order.specs.declared.cell.Cell.{Cell}
use Rattle.point_order.specs.Sets.{IsIn}
use Rattle.net_owner.specs.Nearest.{HasNoneBefore}
use Rattle.cell_slots.specs.Nets.{cells_of_slots}
use Rattle.net_owner.proofs.Nearing.{first_of_star, looked_first, point_of_cell}
use Rattle.net_digs.proofs.Cited.{star_begins, star_all, star_on}
use Rattle.net_owner.proofs.around.look.Goals as goal

-- the first cell is found
pub look-init : goal.look-init
look-init c =
    let x = c.args.first in
    let i = c.requires.among in
    rw c.begin.ensures (
      looked_first c.args.aim.now.place c.args.aim.now.point (cells_of_slots c.args.net.now) x i
          (subst (λ (q : Cell). HasNoneBefore c.args.aim.now.place c.args.aim.now.point q) c.cell.ensures
          (c.is_behind_one.ensures c.if-is_behind_one.false)),
      (x, inl refl),
      λ s k. star_begins s c.args.aim.now.point x (record { listed = (k.members x).0 i; has = c.requires.has }),
    )

pub explore-requires-clause-among : goal.explore-requires-clause-among
explore-requires-clause-among c =
    let less : c.look.explored < length c.look.around = omega (arith, c.len.ensures.count, c.look-test.true) in
    at_place c.look.around c.look.explored c.spot-spot.result c.spot-spot.result less c.spot-spot.ensures

pub look-smaller : goal.look-smaller
look-smaller c = (let few = c.len.ensures.few in omega (arith, c.look-test.true, few))

-- one cell more is explored
pub look-preserved : goal.look-preserved
look-preserved c =
    let v = c.look.invariant in
    let e = c.in_ok-explore.ensures in
    let old = c.look.around in
    let new = c.explore.new.around in
    let less : c.look.explored < length old = omega (arith, c.len.ensures.count, c.look-test.true) in (
      e.looked,
      (v.1.0, subst (λ (g : List Cell). IsIn v.1.0 g) (sym e.more.1) (in_left v.1.0 old e.more.0 v.1.1)),
      λ s k. star_on s c.args.aim.now.point c.look.explored old new c.spot-spot.result less c.spot-spot.ensures e.more
          (e.explored s k) (v.2 s k),
    )

-- all are looked at
pub returns : goal.returns
returns c s k =
    let v = c.look.invariant in
    let p = c.args.aim.now.point in
    first_of_star s c.args.aim.now.place p (cells_of_slots c.args.net.now) c.look.around k v.0
    (point_of_cell s (cells_of_slots c.args.net.now) k c.args.first c.requires.among p c.requires.has)
    (star_all s p c.look.explored c.look.around v.1.0 k.solid.set
    (omega (arith, c.len.ensures.count, c.look-test.false)) v.1.1 (v.2 s k))
