-- The lemmas that other crates cite.
pub use Rattle.star_refill.proofs.Holes.{hole_filled}
