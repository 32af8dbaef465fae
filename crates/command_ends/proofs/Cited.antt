-- The lemmas that other crates cite.
pub use Rattle.command_ends.proofs.DrawnFiles.{drawn_lines, drawn_meshed, drawn_radii, unmeshed_drawn, wanting}
pub use Rattle.command_ends.proofs.RunsEnded.{ends, told, unread}
pub use Rattle.command_ends.proofs.MadeAsAsked.{checked, drawn, kind_is, made_as, parted, queried, reads_as}
pub use Rattle.command_ends.proofs.MadeAsAsked.{reads_source, reported, stepped, unmade_as}
pub use Rattle.command_ends.proofs.Promised.{anchored_text, completes_plainly, of_file, of_kept, written, written_front}
