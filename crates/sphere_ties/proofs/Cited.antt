-- The lemmas that other crates cite.
pub use Rattle.exact_sphere.proofs.Cited.{turned_second}
