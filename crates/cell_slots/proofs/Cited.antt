-- The lemmas that other crates cite.
pub use Rattle.cell_slots.proofs.Beside.{come_over, flat_behind, flat_more, flat_same, put_beside, room_at, room_left}
pub use Rattle.cell_slots.proofs.Beside.{room_moved, room_next, wait_more, written_back}
pub use Rattle.cell_slots.proofs.Marks.{slot_in}
pub use Rattle.cell_slots.proofs.Moving.{few_cells, first_distinct, in_two, joined, last_distinct, moved_back}
pub use Rattle.cell_slots.proofs.Moving.{moved_cells, moved_few, moved_first, moved_last, moved_less, moved_none}
pub use Rattle.cell_slots.proofs.Moving.{moved_on, moved_over, moved_two, moved_with_none, with_no_more}
pub use Rattle.cell_slots.proofs.Nets.{live_append, live_from, live_in, live_snoc}
pub use Rattle.cell_slots.proofs.Parts.{HasPut, all_put, next_put, next_room, put_each, put_left, put_moved, put_none}
pub use Rattle.cell_slots.proofs.Parts.{put_whole}
pub use Rattle.cell_slots.proofs.WholePages.{cells_next}
