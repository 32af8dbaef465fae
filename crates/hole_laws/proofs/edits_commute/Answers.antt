use Rattle.hole_laws.proofs.EditLaws.{edits_commute}
use Rattle.hole_laws.proofs.edits_commute.Goals as goal

pub returns : goal.returns
returns c = edits_commute
