use Rattle.std.proofs.Common.{◌∙◌, sym}
use Rattle.cell_store.specs.Gathered.{is_home}
use Rattle.cell_store.proofs.Gathering.{none_comes, one_comes}
use Rattle.cell_store.proofs.gather.push_cell.Goals as goal

pub returns-in_ok-push : goal.returns-in_ok-push
returns-in_ok-push c = one_comes (is_home c.args.grid c.args.b) c.args.cell.now c.args.list.now.items
    c.push.new.self.items (sym c.is_at_home.ensures ∙ c.if-is_at_home.true) c.in_ok-push.ensures.items

pub returns-else-is_at_home : goal.returns-else-is_at_home
returns-else-is_at_home c = none_comes (is_home c.args.grid c.args.b) c.args.cell.now c.args.list.now.items
    (sym c.is_at_home.ensures ∙ c.if-is_at_home.false)
