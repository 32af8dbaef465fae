-- The lemmas that other crates cite.
pub use Rattle.whole_ring.proofs.Bounds.{within_add, within_fits, within_mul, within_sub}
pub use Rattle.whole_ring.proofs.Numbers.{fits_128, fits_as, product_fits_128, read, read_as, same_difference}
pub use Rattle.whole_ring.proofs.Numbers.{same_product, same_sum, wide, within_as, within_below, within_read}
pub use Rattle.whole_ring.proofs.Numbers.{within_self}
pub use Rattle.whole_ring.proofs.Ring.{nonneg_from, pos_from, ring, ring_from}
pub use Rattle.whole_ring.proofs.Signs.{mul_neg_neg, mul_neg_pos, mul_nonneg, mul_pos, mul_pos_neg, sgn_same, sign}
pub use Rattle.whole_ring.proofs.Signs.{square_nonneg, zero_factor}
pub use Rattle.whole_ring.proofs.Whole.{add_mul, mul_add, mul_assoc, mul_neg, neg_mul}
pub use Rattle.whole_ring.proofs.Signs.{pos_of_mul_pos}
