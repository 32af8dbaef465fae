-- The lemmas that other crates cite.
pub use Rattle.edit_workers.proofs.Segments.{done_each, done_runs}
