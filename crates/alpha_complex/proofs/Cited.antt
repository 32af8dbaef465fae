-- The lemmas that other crates cite.
pub use Rattle.alpha_complex.proofs.Leasts.{AllLeft, AnyLeft, all_step, any_step, zip_at, zip_places}
pub use Rattle.alpha_complex.proofs.Searches.{mapped_at}
pub use Rattle.alpha_complex.proofs.Shaped.{cells_are}
pub use Rattle.alpha_complex.proofs.Admission.{triple_facet}
pub use Rattle.alpha_complex.proofs.KindSteps.{le_true, le_false}
pub use Rattle.alpha_complex.proofs.Parts.{no_longer, whole_only}
pub use Rattle.alpha_complex.proofs.SmallFaces.{firsts_are}
pub use Rattle.alpha_complex.proofs.SlotLaws.{zip_count}
