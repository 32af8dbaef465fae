-- The lemmas that other crates cite.
pub use Rattle.command_words.proofs.CommandLine.{check_task, check_words, default_words, draw_task, mesh_order_words}
pub use Rattle.command_words.proofs.CommandLine.{mesh_words, near_words, part_task, parts_asked, parts_words}
pub use Rattle.command_words.proofs.CommandLine.{query_task, report_task, shape_order_words, shape_words, step_task}
pub use Rattle.command_words.proofs.CommandLine.{steps_words}
pub use Rattle.command_words.proofs.NumberWords.{gen_text_words, gen_words, mesh_workers_words, near_workers_words}
pub use Rattle.command_words.proofs.NumberWords.{parts_at_words, parts_workers_words, shape_workers_words}
pub use Rattle.command_words.proofs.NumberWords.{steps_workers_words}
