-- The lemmas that other crates cite.
pub use Rattle.mesh_reader.proofs.Judged.{no_fault_of_mesh, one_mesh_of}
pub use Rattle.mesh_reader.proofs.Order.{mesh_order}
