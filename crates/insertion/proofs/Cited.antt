-- The lemmas that other crates cite.
pub use Rattle.insertion.proofs.FoundFours.{four_found}
pub use Rattle.insertion.proofs.Arrivals.{arrival_stays}
pub use Rattle.insertion.proofs.Searches.{none_lacks}
