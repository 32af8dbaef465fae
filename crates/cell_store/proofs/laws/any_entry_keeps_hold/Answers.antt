use Rattle.cell_store.proofs.AnyLaws as laws
use Rattle.cell_store.proofs.laws.any_entry_keeps_hold.Goals as goal

pub returns-clause-share : goal.returns-clause-share
returns-clause-share c = laws.share_after_any

pub returns-clause-hold : goal.returns-clause-hold
returns-clause-hold c = laws.any_keeps_hold

pub returns-clause-found : goal.returns-clause-found
returns-clause-found c = laws.change_finds_cells
