use Rattle.cell_store.proofs.WholeLaws.{pushed_at}
use Rattle.cell_store.proofs.whole.push_at.Goals as goal

pub returns : goal.returns
returns g c =
    pushed_at c.args.lists.now.items c.args.b c.index_mut.result.now c.push.new.self c.args.x c.requires
    c.index_mut.ensures.value c.in_ok-push.ensures.items
