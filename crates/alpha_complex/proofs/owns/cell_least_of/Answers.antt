use Rattle.std.proofs.Common.{ap}
use Rattle.alpha_complex.specs.Judged.{is_small_cell}
use Rattle.alpha_complex.proofs.Leasts.{never_least}
use Rattle.alpha_complex.proofs.owns.cell_least_of.Goals as goal

pub returns-in-Open : goal.returns-in-Open
returns-in-Open c a l = never_least (λ n. is_small_cell n c.args.cell.now) (λ n h. ap (is_small_cell n) c.in-Open.is) a
    l
