-- The lemmas that other crates cite.
pub use Rattle.nearest_points.proofs.Order.{before_chain, before_self, first_joined, not_before_chain, not_negative}
pub use Rattle.nearest_points.proofs.Order.{one_before, one_first, one_later, rank, rank_falls, size_is}
