-- The lemmas that other crates cite.
pub use Rattle.cavity.proofs.Exploration.{facet_held}
pub use Rattle.cavity.proofs.Filling.{fresh_are_held}
