-- The lemmas that other crates cite.
pub use Rattle.text_sheets.proofs.Flowing.{went_well}
pub use Rattle.text_sheets.proofs.Places.{below_end, own_item, past_end}
pub use Rattle.text_sheets.proofs.Sheets.{IsOfItems, PutsBut, block_put, closed, closed_cause, closed_front, ends}
pub use Rattle.text_sheets.proofs.Sheets.{goes_on, leaves_all, nothing, starts, then}
pub use Rattle.text_sheets.proofs.Slots.{held_ends, held_goes_on, held_lines, held_starts}
