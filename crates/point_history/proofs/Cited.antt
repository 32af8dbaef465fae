-- The lemmas that other crates cite.
pub use Rattle.point_history.proofs.KeySets.{key_put, key_there}
pub use Rattle.point_history.proofs.PointSets.{found, leaves_points, set_is, solid_by}
