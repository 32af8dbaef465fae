use Rattle.std.proofs.Common.{◌∙◌, lit<, w64}
use Rattle.whole_ring.proofs.Cited.{read, within_fits, within_read}
use Rattle.point_order.proofs.Cited.{distance_from}
use Rattle.net_owner.proofs.aim.square_from.Goals as goal

pub returns-clause-value : goal.returns-clause-value
returns-clause-value c =
    read (within_fits w64 c.square.ensures.bound (lit< tt)) ∙ c.square.ensures.value
    ∙ distance_from c.args.place c.args.point c.between.ensures.x c.between.ensures.y c.between.ensures.z

pub returns-clause-bound : goal.returns-clause-bound
returns-clause-bound c = within_read w64 c.square.ensures.bound (lit< tt)
