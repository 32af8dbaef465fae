-- The lemmas that other crates cite.
pub use Rattle.cell_net.proofs.Standing.{all_cells, other_beside, other_of, other_there, some_other, whole_other}
pub use Rattle.cell_net.proofs.Standing.{whole_within, within_listed}
pub use Rattle.cell_net.proofs.Taking.{taken}
