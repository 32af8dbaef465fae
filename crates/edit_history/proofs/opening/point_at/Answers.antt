use Rattle.std.proofs.Common.{subst}
use Rattle.point_order.specs.Coordinates.{IsKey}
use Rattle.edit_history.proofs.OpeningSolid.{read_is}
use Rattle.edit_history.proofs.opening.point_at.Goals as goal

pub returns-clause-point : goal.returns-clause-point
returns-clause-point c = read_is c.args.points.now c.args.index _ c.requires c.index-points-index.is

pub returns-clause-key : goal.returns-clause-key
returns-clause-key c = subst IsKey (returns-clause-point c) c.key.ensures.bound
