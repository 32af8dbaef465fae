use Rattle.command_pages.proofs.Unwritten.{unwritten}
use Rattle.command_pages.proofs.shapes.put_summary.Goals as goal

pub returns-in_err-text-clause-stop : goal.returns-in_err-text-clause-stop
returns-in_err-text-clause-stop g c = unwritten _ _ _ c.from_residual.result c.from_residual.ensures.1
