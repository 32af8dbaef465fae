use Rattle.std.proofs.Common.{rules}
use Rattle.edit_files.specs.Judging.{after_line}
use Rattle.edit_files.proofs.reader.Reader.take_line.Goals as goal

pub returns-in-Title : goal.returns-in-Title
unfolding after_line
returns-in-Title c = search rules

pub returns-in-Heading : goal.returns-in-Heading
unfolding after_line
returns-in-Heading c = search rules

pub returns-in-Body : goal.returns-in-Body
unfolding after_line
returns-in-Body c = rw c.in-Body.is (c.take_in_list.ensures c.args.newest)

pub returns-in-Nothing : goal.returns-in-Nothing
unfolding after_line
returns-in-Nothing c = search rules
