-- The lemmas that other crates cite.
pub use Rattle.exact_sphere.proofs.Turned.{turned_second}
