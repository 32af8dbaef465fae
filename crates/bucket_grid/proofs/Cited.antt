-- The lemmas that other crates cite.
pub use Rattle.bucket_grid.proofs.GridLaws.{bucket_below}
