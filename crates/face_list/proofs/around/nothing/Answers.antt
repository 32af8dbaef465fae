use Rattle.std.proofs.Common.{refl, arith}
use Rattle.face_list.proofs.Growing.{gathered_none}
use Rattle.face_list.proofs.around.nothing.Goals as goal

pub returns : goal.returns
returns g c cells points within = record {
  items = gathered_none g.K.Ord.cmp cells _ _ _ c.in_ok-with_capacity.ensures.items
      c.in_ok-with_capacity-2.ensures.items c.in_ok-with_capacity-3.ensures.items refl;
  begin = refl;
  end = refl;
  order = omega arith;
  within = within;
}
