use Rattle.cavity.proofs.Composing.{gathered_both}
use Rattle.cavity.proofs.compose.of_both.Goals as goal

pub returns : goal.returns
returns c =
    gathered_both c.args.first.now c.args.but_first.now c.args.second.now c.args.but_second.now c.in_ok-list.list.items
    c.add_but.new.list.items c.add_but-2.new.list.items
    c.in_ok-list.ensures.items c.in_ok-add_but.ensures c.in_ok-add_but-2.ensures
