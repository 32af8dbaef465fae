use Rattle.cell_store.proofs.NextLaws.{next_entry, entry_keeps_hold, share_after_entry, share_elsewhere}
use Rattle.cell_store.proofs.laws.entry_keeps_hold.Goals as goal

pub returns-clause-next : goal.returns-clause-next
returns-clause-next c = next_entry

pub returns-clause-hold : goal.returns-clause-hold
returns-clause-hold c = entry_keeps_hold

pub returns-clause-share : goal.returns-clause-share
returns-clause-share c = share_after_entry

pub returns-clause-elsewhere : goal.returns-clause-elsewhere
returns-clause-elsewhere c = share_elsewhere
