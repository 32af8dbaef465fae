-- The lemmas that a caller cites.
pub use Rattle.grid_claims.proofs.Cited.{still, still_snapped}
