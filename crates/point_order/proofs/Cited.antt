-- The lemmas that other crates cite.
pub use Rattle.point_order.proofs.CellOrderLaws.{cell_after, cell_before, cell_in_or_not, cell_order, cell_reverse}
pub use Rattle.point_order.proofs.CellOrderLaws.{cell_same, cell_self}
pub use Rattle.point_order.proofs.Determinants.{last_first, last_second, last_third, sphere_from_first, swap_first}
pub use Rattle.point_order.proofs.Determinants.{swap_last, swap_middle}
pub use Rattle.point_order.proofs.HeightLaws.{height_parts_law, never_zero_law, part_rises}
pub use Rattle.point_order.proofs.Keys.{key_is}
pub use Rattle.point_order.proofs.Perturbation.{out_sign}
pub use Rattle.point_order.proofs.SetLaws.{ascending_ascending, ascending_is, ascending_self, ascending_with}
pub use Rattle.point_order.proofs.SetLaws.{in_ascending, in_ascending_from, in_with, in_with_new, in_with_old}
pub use Rattle.point_order.proofs.SetLaws.{with_cases}
pub use Rattle.point_order.proofs.SignRule.{coefficient_e, not_zero, one_of_five, sign_of_tie}
pub use Rattle.point_order.proofs.Steps.{distance_from, normal_x_from, normal_y_from, normal_z_from, orientation_from}
pub use Rattle.point_order.proofs.Zero.{not_zero_from, zero_false, zero_from, zero_true}
pub use Rattle.point_order.proofs.Keys.{x_of_below, y_of_below, z_of_below}
