use Rattle.mesh_check.proofs.Verdicts.{flaw_shows}
use Rattle.mesh_check.proofs.laws.each_flaw_shows.Goals as goal

pub returns : goal.returns
returns c = flaw_shows
