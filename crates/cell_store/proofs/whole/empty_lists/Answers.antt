use Rattle.cell_store.proofs.WholeLaws.{all_empty, empty_more}
use Rattle.cell_store.proofs.whole.empty_lists.Goals as goal

pub loop-preserved : goal.loop-preserved
loop-preserved g c =
    empty_more c.loop.counter c.loop.lists.items c.push.new.self.items c.new.result c.in_ok-push.ensures.items
    c.new.ensures.items c.loop.invariant

pub returns-clause-empty : goal.returns-clause-empty
returns-clause-empty g c = all_empty c.loop.lists.items c.loop.invariant.1
