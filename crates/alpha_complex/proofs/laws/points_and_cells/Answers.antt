use Rattle.std.proofs.Common.{sym}
use Rattle.alpha_complex.proofs.Admission.{admitted_cell_is, point_is_admitted}
use Rattle.alpha_complex.proofs.laws.points_and_cells.Goals as goal

pub returns-clause-point : goal.returns-clause-point
returns-clause-point c = point_is_admitted

pub returns-clause-cell : goal.returns-clause-cell
returns-clause-cell c = λ s alpha q a i. sym (admitted_cell_is s alpha q a i)
