-- The lemmas that other crates cite.
pub use Rattle.solid_parts.proofs.Few.{same_count}
