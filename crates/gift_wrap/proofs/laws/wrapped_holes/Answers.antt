use Rattle.gift_wrap.proofs.Wrapping.{leader_is_apex, outer_is_rim}
use Rattle.gift_wrap.proofs.laws.wrapped_holes.Goals as goal

pub returns-clause-apex : goal.returns-clause-apex
returns-clause-apex c = leader_is_apex

pub returns-clause-rim : goal.returns-clause-rim
returns-clause-rim c = outer_is_rim
