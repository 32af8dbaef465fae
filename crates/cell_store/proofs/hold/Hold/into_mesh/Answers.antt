use Rattle.cell_store.proofs.MeshLaws.{own_hold}
use Rattle.cell_store.proofs.hold.Hold.into_mesh.Goals as goal

pub invariant_of-result : goal.invariant_of-result
invariant_of-result c = (
  own_hold c.args.self c.requires.stands.0
      (record { has = c.count_entries-count.ensures.has; all = c.requires.all }) c.requires.stands.1,
  c.count_entries-count.ensures.count,
)

pub returns-clause-hold : goal.returns-clause-hold
returns-clause-hold c = own_hold c.args.self c.requires.stands.0
    (record { has = c.count_entries-count.ensures.has; all = c.requires.all }) c.requires.stands.1
