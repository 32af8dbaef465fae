use Rattle.face_list.proofs.FullCells.{full_cells_in_order, full_cells_of_complex, full_cell_is_listed}
use Rattle.face_list.proofs.FullCells.{listed_is_full_cell}
use Rattle.face_list.proofs.laws.full_cells_in_order.Goals as goal

pub returns-clause-order : goal.returns-clause-order
returns-clause-order c = full_cells_in_order

pub returns-clause-of_complex : goal.returns-clause-of_complex
returns-clause-of_complex c = full_cells_of_complex

pub returns-clause-cell : goal.returns-clause-cell
returns-clause-cell c = full_cell_is_listed

pub returns-clause-cell_only : goal.returns-clause-cell_only
returns-clause-cell_only c = listed_is_full_cell
