-- The lemmas that other crates cite.
pub use Rattle.opening_entries.proofs.OpeningLaws.{AreNew, four_apart, four_new, leaves_four, legal_from}
pub use Rattle.opening_entries.proofs.OpeningLaws.{points_of_lines}
