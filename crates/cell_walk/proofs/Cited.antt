-- The lemmas that other crates cite.
pub use Rattle.cell_walk.proofs.Trails.{start_is_walk, walk_stays}
