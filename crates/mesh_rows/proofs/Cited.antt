-- The lemmas that other crates cite.
pub use Rattle.mesh_rows.proofs.Clouds.{inside}
