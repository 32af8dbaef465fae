use Rattle.hole_laws.proofs.Laws.{cells_after, fresh_have_point, old_lack_point, some_rim}
use Rattle.hole_laws.proofs.insertion_law.Goals as goal

pub returns-clause-after : goal.returns-clause-after
returns-clause-after c = cells_after

pub returns-clause-fresh : goal.returns-clause-fresh
returns-clause-fresh c = fresh_have_point

pub returns-clause-old : goal.returns-clause-old
returns-clause-old c = old_lack_point

pub returns-clause-rim : goal.returns-clause-rim
returns-clause-rim c = some_rim
