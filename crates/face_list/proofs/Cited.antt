-- The lemmas that other crates cite.
pub use Rattle.face_list.proofs.FaceLaws.{listed_is_part, part_is_listed, parts_in_order, points_of_complex}
pub use Rattle.face_list.proofs.FaceLists.{part_length}
pub use Rattle.face_list.proofs.FullCells.{full_cell_is_listed, listed_is_full_cell}
pub use Rattle.face_list.proofs.Apart.{around_seen, numbers_apart, numbers_named}
pub use Rattle.face_list.proofs.Stretches.{keys_seen}
