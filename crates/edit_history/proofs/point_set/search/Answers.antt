use Rattle.std.proofs.lemmas.List.Sorted.{searched}
use Rattle.list_laws.proofs.Cited.{climbs}
use Rattle.edit_history.proofs.SetEdits.{search_there, search_found, search_absent}
use Rattle.edit_history.proofs.point_set.search.Goals as goal

pub returns-clause-there : goal.returns-clause-there
returns-clause-there c =
    let s = c.args.points.now in
    search_there s c.args.p c.binary_search.result (searched s c.args.p c.binary_search.result
    c.binary_search.ensures.position (climbs s c.requires))

pub returns-clause-found : goal.returns-clause-found
returns-clause-found c =
    let s = c.args.points.now in
    search_found s c.args.p c.binary_search.result c.requires (searched s c.args.p c.binary_search.result
    c.binary_search.ensures.position (climbs s c.requires))

pub returns-clause-absent : goal.returns-clause-absent
returns-clause-absent c =
    let s = c.args.points.now in
    search_absent s c.args.p c.binary_search.result (searched s c.args.p c.binary_search.result
    c.binary_search.ensures.position (climbs s c.requires))
