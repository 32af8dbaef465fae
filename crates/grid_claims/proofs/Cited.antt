-- The lemmas that other crates cite.
pub use Rattle.grid_claims.proofs.Snapped.{still_snapped}
pub use Rattle.grid_claims.proofs.Trying.{still}
