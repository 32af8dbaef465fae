use Rattle.std.proofs.lemmas.List.Sorted.{searched}
use Rattle.list_laws.proofs.Cited.{climbs}
use Rattle.edit_history.proofs.Cited.{search_absent, search_found}
use Rattle.cell_store.proofs.NoteLaws.{found_absent, found_with, found_without}
use Rattle.cell_store.proofs.note.search.Goals as goal

pub returns-clause-there : goal.returns-clause-there
returns-clause-there c =
    let s = c.args.points.now in
    found_with s c.args.p c.binary_search.result c.requires
    (searched s c.args.p c.binary_search.result c.binary_search.ensures.position (climbs s c.requires))

pub returns-clause-found : goal.returns-clause-found
returns-clause-found c =
    let s = c.args.points.now in
    search_found s c.args.p c.binary_search.result c.requires
    (searched s c.args.p c.binary_search.result c.binary_search.ensures.position (climbs s c.requires))

pub returns-clause-missing : goal.returns-clause-missing
returns-clause-missing c =
    let s = c.args.points.now in
    found_without s c.args.p c.binary_search.result
    (searched s c.args.p c.binary_search.result c.binary_search.ensures.position (climbs s c.requires))

pub returns-clause-absent : goal.returns-clause-absent
returns-clause-absent c =
    let s = c.args.points.now in
    search_absent s c.args.p c.binary_search.result
    (searched s c.args.p c.binary_search.result c.binary_search.ensures.position (climbs s c.requires))

pub returns-clause-none : goal.returns-clause-none
returns-clause-none c =
    let s = c.args.points.now in
    found_absent s c.args.p c.binary_search.result
    (searched s c.args.p c.binary_search.result c.binary_search.ensures.position (climbs s c.requires))
