-- The lemmas that other crates cite.
pub use Rattle.net_digs.proofs.Behind.{behind_more, behind_next, behind_no_cell}
pub use Rattle.net_digs.proofs.Filling.{exchanged_beside, filled, rim_apart}
pub use Rattle.net_digs.proofs.Growing.{all_listed, grown_set, others_new, sorted_all}
pub use Rattle.net_digs.proofs.Ranking.{same_on}
pub use Rattle.net_digs.proofs.Refilling.{refilled}
pub use Rattle.net_digs.proofs.StarSearch.{crossed_apart, crossed_before, crossed_now, star_all, star_begins, star_on}
