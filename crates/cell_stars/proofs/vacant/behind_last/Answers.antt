use Rattle.cell_stars.proofs.MoveLaws.{before_behind}
use Rattle.cell_stars.proofs.vacant.behind_last.Goals as goal

pub returns-in-Some : goal.returns-in-Some
returns-in-Some c = before_behind c.args.list.now c.in-Some.field-0-1.now c.in-Some.last.now c.number_behind.result
    c.in-Some.ensures.cases.0 c.requires c.number_behind.ensures.next
