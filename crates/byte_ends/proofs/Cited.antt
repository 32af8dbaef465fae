-- The lemmas that other crates cite.
pub use Rattle.byte_ends.proofs.Told.{AppendsFront_after}
