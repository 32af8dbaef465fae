use Rattle.cell_store.proofs.BetweenLaws as laws
use Rattle.cell_store.proofs.laws.points_come_and_go.Goals as goal

pub returns-clause-entered : goal.returns-clause-entered
returns-clause-entered c = laws.entered_shows

pub returns-clause-left : goal.returns-clause-left
returns-clause-left c = laws.left_is_same

pub returns-clause-outside : goal.returns-clause-outside
returns-clause-outside c = laws.sight_outside

pub returns-clause-composed : goal.returns-clause-composed
returns-clause-composed c = laws.changes_compose
