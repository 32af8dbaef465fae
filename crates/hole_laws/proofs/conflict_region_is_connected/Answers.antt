use Rattle.hole_laws.proofs.Laws.{region_connected, found_from_held}
use Rattle.hole_laws.proofs.conflict_region_is_connected.Goals as goal

pub returns-clause-connected : goal.returns-clause-connected
returns-clause-connected c = region_connected

pub returns-clause-held : goal.returns-clause-held
returns-clause-held c = found_from_held
