use Rattle.edit_files.specs.Held.{content}
use Rattle.delaunay_cli.proofs.FilesRead.{answers_told}
use Rattle.delaunay_cli.proofs.near.query.Goals as goal

pub returns-clause-made : goal.returns-clause-made
returns-clause-made g c workers some =
    answers_told (g.S.Source.left c.args.src.now) (content c.in_ok-file.file) c.in_ok-file.ensures.file workers
    c.in_ok-kept.kept.items _ (c.in_ok-kept.ensures.made workers some)
