-- The lemmas that other crates cite.
pub use Rattle.claim_rule.proofs.Began.{as_counted, mesh_shares}
pub use Rattle.claim_rule.proofs.Brought.{any_brought}
pub use Rattle.claim_rule.proofs.Commits.{commit_keeps, renewed_at, renewed_back, renewed_length, renewed_there}
pub use Rattle.claim_rule.proofs.Events.{events_keep_good}
pub use Rattle.claim_rule.proofs.Histories.{by_parts, dropped_all, length_more, parts_by, starts_more}
pub use Rattle.claim_rule.proofs.OneHistory.{one_history_of_board, stands_for}
pub use Rattle.claim_rule.proofs.Opening.{opening_is_good}
pub use Rattle.claim_rule.proofs.Parts.{join_keeps, split_keeps}
pub use Rattle.claim_rule.proofs.Places.{left_one}
pub use Rattle.claim_rule.proofs.Steps.{claim_keeps, look_keeps, release_keeps}
pub use Rattle.claim_rule.proofs.Filled.{same_end}
