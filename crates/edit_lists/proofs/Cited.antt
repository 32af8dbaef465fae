-- The lemmas that other crates cite.
pub use Rattle.edit_lists.proofs.Deals.{are_opening, dealt_count}
