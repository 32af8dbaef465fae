use Rattle.std.proofs.Common.{◌∙◌}
use Rattle.std.proofs.lemmas.List.Sorted.{searched}
use Rattle.list_laws.proofs.Cited.{climbs}
use Rattle.edit_history.proofs.Cited.{search_there}
use Rattle.cell_stars.proofs.numbers.is_listed.Goals as goal

pub returns-else-list-le-FEW : goal.returns-else-list-le-FEW
returns-else-list-le-FEW c a =
    let s = c.args.list.now in
    let r = c.binary_search.result in
    c.is_ok.ensures.value ∙ search_there s c.args.i r (searched s c.args.i r c.binary_search.ensures.position
    (climbs s a))
