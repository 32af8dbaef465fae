-- Exchanges of cells in the buckets of their vertices.
pub use Rattle.cell_stars.specs.Swaps.{touches, is_cell_among, with_cell, without_cells, swapped, with_all_cells}
