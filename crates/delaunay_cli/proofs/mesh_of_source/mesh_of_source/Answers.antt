use Rattle.byte_ends.specs.Ends.{Rose}
use Rattle.edit_files.specs.Held.{content}
use Rattle.command_pages.specs.Run.{input_limit}
use Rattle.command_words.specs.Stops.{status_of_made}
use Rattle.delaunay_cli.proofs.FilesRead.{few_lines, no_mesh, report_told}
use Rattle.command_pages.proofs.Cited.{reads_front}
use Rattle.delaunay_cli.proofs.mesh_of_source.mesh_of_source.Goals as goal

pub history_and_parts-requires-clause-lines : goal.history_and_parts-requires-clause-lines
history_and_parts-requires-clause-lines g c κs within =
    few_lines (g.S.Source.left c.args.src.now) (content c.in_ok-file.file) c.in_ok-file.ensures.file

pub history_and_parts-requires-clause-radii : goal.history_and_parts-requires-clause-radii
history_and_parts-requires-clause-radii g c κs within = c.in_ok-file.ensures.file.radii

pub returns-clause-made : goal.returns-clause-made
returns-clause-made g c =
    report_told (g.S.Source.left c.args.src.now) (content c.in_ok-file.file) c.in_ok-file.ensures.file
    c.args.making.workers c.args.asked.shape c.args.asked.order c.history_and_parts.result
    c.history_and_parts.ensures.made

pub returns-clause-stop : goal.returns-clause-stop
returns-clause-stop g c =
    no_mesh (g.S.Source.left c.args.src.now) (content c.in_ok-file.file) c.in_ok-file.ensures.file
    (Rose (g.S.Source.faults c.args.src.now) (g.S.Source.faults c.file_of_source.new.src)) c.history_and_parts.result
    c.history_and_parts.ensures.stop

pub returns-clause-reads : goal.returns-clause-reads
returns-clause-reads g c =
    reads_front input_limit _ _ (status_of_made c.history_and_parts.result) c.in_ok-file.ensures.reads
