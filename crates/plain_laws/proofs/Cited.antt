-- The lemmas that other crates cite.
pub use Rattle.plain_laws.proofs.PlainLaw.{anchored_is_plain}
pub use Rattle.plain_laws.proofs.Segments.{alone_in_any_order, one_point, segments_apart, segments_begin}
pub use Rattle.plain_laws.proofs.Segments.{segments_go_on, segments_keep, share_flips}
pub use Rattle.plain_laws.proofs.Runs.{dealt_all}
pub use Rattle.plain_laws.proofs.Behind.{run_behind_alone, run_behind_keeps}
pub use Rattle.plain_laws.proofs.Runs.{entry_by}
