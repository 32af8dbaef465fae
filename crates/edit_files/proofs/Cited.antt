-- The lemmas that other crates cite.
pub use Rattle.edit_files.proofs.Generated.{generated_anchored, generated_solid}
pub use Rattle.edit_files.proofs.Judged.{no_fault_of, one_file_of}
pub use Rattle.edit_files.proofs.Written.{file_is_within}
