-- The lemmas that other crates cite.
pub use Rattle.command_pages.proofs.Clouds.{kept_by_any}
pub use Rattle.command_pages.proofs.Judging.{reads_front}
pub use Rattle.command_pages.proofs.MeshJudged.{cells_of}
