-- The lemmas that other crates cite.
pub use Rattle.edit_history.proofs.HistoryLaws.{added_new, added_old, ascending_changed, leaves_set}
pub use Rattle.edit_history.proofs.KeepsLaw.{InOrder, entry_lines, keeps_law, share_adds}
pub use Rattle.edit_history.proofs.Lines.{length_entries, ok_then}
pub use Rattle.edit_history.proofs.LinesAtPlaces.{line_at, picked}
pub use Rattle.edit_history.proofs.Moving.{after_moved, arrived_still, does_move, has_moved}
pub use Rattle.edit_history.proofs.Numbers.{merged_order}
pub use Rattle.edit_history.proofs.OneMore.{legal_more, number_below, replay_more}
pub use Rattle.edit_history.proofs.OpeningSolid.{four_law}
pub use Rattle.edit_history.proofs.Replies.{duplicate, flat, inserts, missing, reply_there}
pub use Rattle.edit_history.proofs.SetEdits.{among_gap, search_absent, search_found, search_there}
pub use Rattle.edit_history.proofs.Solidity.{solid_from}
pub use Rattle.edit_history.proofs.HistoryLaws.{ascending_arrived}
