use Rattle.mesh_rows.proofs.Clouds.{passed_on}
use Rattle.mesh_rows.proofs.parts.least_alpha_of.Goals as goal

pub returns-in_err-cloud-clause-refused : goal.returns-in_err-cloud-clause-refused
returns-in_err-cloud-clause-refused c =
    passed_on c.args.given.now _ c.from_residual.result c.from_residual.ensures.1 c.in_err-cloud.ensures.refused

pub returns-in_err-least-clause-refused : goal.returns-in_err-least-clause-refused
returns-in_err-least-clause-refused c =
    passed_on c.args.given.now _ c.from_residual-in_err-least.result c.from_residual-in_err-least.ensures.1 tt
