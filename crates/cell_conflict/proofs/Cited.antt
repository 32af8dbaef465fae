-- The lemmas that other crates cite.
pub use Rattle.cell_conflict.proofs.Searching.{in_items, none_in, not_none, of_items, some_point}
pub use Rattle.cell_conflict.proofs.Standing.{held_on}
