-- The lemmas that other crates cite.
pub use Rattle.cell_stars.proofs.CellLaws.{among_from, among_true, swapped_back, swapped_from, swapped_new}
pub use Rattle.cell_stars.proofs.CellLaws.{swapped_none, swapped_old, swapped_sorted, withs_new}
pub use Rattle.cell_stars.proofs.Least.{live_at}
pub use Rattle.cell_stars.proofs.PartLaws.{in_own, keys_apart}
pub use Rattle.cell_stars.proofs.Turned.{turn_is_one, turn_leads_back}
pub use Rattle.cell_stars.proofs.KeyLaws.{same_or_not}
pub use Rattle.cell_stars.proofs.WriteLaws.{filter_next}
