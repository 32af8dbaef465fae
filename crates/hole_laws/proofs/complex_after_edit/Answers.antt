use Rattle.hole_laws.proofs.ExchangedLists.{made_by_insertion}
use Rattle.hole_laws.proofs.RemovalLaws.{made_by_removal}
use Rattle.hole_laws.proofs.complex_after_edit.Goals as goal

pub returns-clause-insertion : goal.returns-clause-insertion
returns-clause-insertion c = made_by_insertion

pub returns-clause-removal : goal.returns-clause-removal
returns-clause-removal c = made_by_removal
