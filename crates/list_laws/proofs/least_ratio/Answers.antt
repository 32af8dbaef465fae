use Rattle.list_laws.proofs.LeastRatio.{least_ratio}
use Rattle.list_laws.proofs.least_ratio.Goals as goal

pub returns : goal.returns
returns g c = least_ratio _
