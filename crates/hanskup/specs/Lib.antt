-- What the clauses of the calls that are passed on cite, by the names that it has where it stands.
pub use Rattle.point_order.specs.Coordinates
pub use Rattle.point_order.specs.Sets
pub use Rattle.point_order.specs.Orientation
pub use Rattle.point_order.specs.Solid
pub use Rattle.point_order.specs.Complex
pub use Rattle.edit_history.specs.Edits
pub use Rattle.edit_history.specs.Histories
pub use Rattle.del_laws.specs.Keys
pub use Rattle.nearest_points.specs.Points
pub use Rattle.opening_entries.specs.Opening
pub use Rattle.linked_mesh.specs.Applied
pub use Rattle.one_mesh.specs.Opened
pub use Rattle.alpha_complex.specs.Condition
pub use Rattle.cell_store.specs.Shares
pub use Rattle.cell_store.specs.Meshes
pub use Rattle.grid_claims.specs.Passes
pub use Rattle.grid_claims.specs.Tries
