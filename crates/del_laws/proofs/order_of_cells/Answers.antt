use Rattle.del_laws.proofs.Ordered.{complex_is_sorted, same_members}
use Rattle.del_laws.proofs.order_of_cells.Goals as goal

pub returns-clause-sorted : goal.returns-clause-sorted
returns-clause-sorted c = complex_is_sorted

pub returns-clause-same_members : goal.returns-clause-same_members
returns-clause-same_members c = same_members
