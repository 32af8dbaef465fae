-- The lemmas that other crates cite.
pub use Rattle.gift_wrap.proofs.Around.{none_met, one_added, one_met, one_passed}
pub use Rattle.gift_wrap.proofs.Linked.{around_listed, enough, has_across, rest_flat}
pub use Rattle.gift_wrap.proofs.Wrapping.{hole_wraps}
