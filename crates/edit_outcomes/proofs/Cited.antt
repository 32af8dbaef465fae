-- The lemmas that other crates cite.
pub use Rattle.edit_outcomes.proofs.Outcomes.{by_changes, entries_leave, entries_reply}
pub use Rattle.edit_outcomes.proofs.Changing.{in_lacking, lacking_ascending, lacking_in}
