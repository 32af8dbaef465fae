use Rattle.edit_files.specs.Held.{content}
use Rattle.command_pages.specs.Run.{file_limits}
use Rattle.command_pages.proofs.Judging.{file_small, radii_small}
use Rattle.command_pages.proofs.edit_file.judge.Goals as goal

pub returns-in-Ok-clause-file : goal.returns-in-Ok-clause-file
returns-in-Ok-clause-file c =
    let file = content c.in-Ok.file in
    record {
      lines = file_small file_limits c.args.bytes.now file c.in-Ok.ensures.accepted;
      radii = radii_small file_limits c.args.bytes.now file c.in-Ok.ensures.accepted;
      told = (c.requires, c.in-Ok.ensures.accepted);
    }
