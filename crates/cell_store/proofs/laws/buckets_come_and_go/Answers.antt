use Rattle.cell_store.proofs.HandLaws as laws
use Rattle.cell_store.proofs.laws.buckets_come_and_go.Goals as goal

pub returns-clause-empty_stands : goal.returns-clause-empty_stands
returns-clause-empty_stands c = laws.empty_stands

pub returns-clause-empty_shows : goal.returns-clause-empty_shows
returns-clause-empty_shows c = laws.empty_shows

pub returns-clause-fewer_stand : goal.returns-clause-fewer_stand
returns-clause-fewer_stand c = laws.fewer_stand

pub returns-clause-fewer_show : goal.returns-clause-fewer_show
returns-clause-fewer_show c = laws.fewer_show

pub returns-clause-taken : goal.returns-clause-taken
returns-clause-taken c = laws.take_is_fewer

pub returns-clause-put_stands : goal.returns-clause-put_stands
returns-clause-put_stands c = laws.put_stands

pub returns-clause-put_shows : goal.returns-clause-put_shows
returns-clause-put_shows c = laws.put_shows

pub returns-clause-put : goal.returns-clause-put
returns-clause-put c = laws.put_is_more
