-- The lemmas that other crates cite.
pub use Rattle.mesh_check.proofs.Listed.{cells_listed}
pub use Rattle.mesh_check.proofs.Verdicts.{flaw_is_true, flaw_shows, good_is_complex}
