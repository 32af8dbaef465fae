-- The lemmas that other crates cite.
pub use Rattle.cell_store.proofs.AnyLaws.{arrived_rest, change_finds_cells, share_after_any}
pub use Rattle.cell_store.proofs.BucketPoints.{points_are, points_of_bucket}
pub use Rattle.cell_store.proofs.HandLaws.{empty_stands, fewer_show, put_stands}
pub use Rattle.cell_store.proofs.Held.{cell_missing, cells_all, cells_more, none_missing}
pub use Rattle.cell_store.proofs.MeshLaws.{all_are_held, cells_of, flat_from, from_put, goal_free, has_point, held_by}
pub use Rattle.cell_store.proofs.MeshLaws.{history_is, point_held, shows_of, sorted_moves}
pub use Rattle.cell_store.proofs.NextLaws.{cells_after, entries_after, entries_stay, mapped_some, next_entry}
pub use Rattle.cell_store.proofs.NextLaws.{points_after, points_stay, replay_next}
pub use Rattle.cell_store.proofs.ShareLaws.{facet_inside, share_is_one, solid_set, sound_of, stands_shows, touched}
pub use Rattle.cell_store.proofs.TouchLaws.{all_out, left_out, share_outside}
