use Rattle.cell_store.proofs.ShareLaws as laws
use Rattle.cell_store.proofs.laws.shares_show.Goals as goal

pub returns-clause-share : goal.returns-clause-share
returns-clause-share c = laws.share_is_one

pub returns-clause-shown : goal.returns-clause-shown
returns-clause-shown c = laws.stands_shows
