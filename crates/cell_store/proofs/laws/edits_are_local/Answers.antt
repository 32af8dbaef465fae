use Rattle.cell_store.proofs.TouchLaws as laws
use Rattle.cell_store.proofs.laws.edits_are_local.Goals as goal

pub returns-clause-outside : goal.returns-clause-outside
returns-clause-outside c = laws.share_outside

pub returns-clause-found : goal.returns-clause-found
returns-clause-found c = laws.reach_from_held

pub returns-clause-commute : goal.returns-clause-commute
returns-clause-commute c = laws.commits_commute
