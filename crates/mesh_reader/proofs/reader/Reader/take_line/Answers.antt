use Rattle.std.proofs.Common.{rules}
use Rattle.mesh_reader.specs.Judging.{transition}
use Rattle.mesh_reader.proofs.reader.Reader.take_line.Goals as goal

pub returns-in-Title : goal.returns-in-Title
unfolding transition
returns-in-Title c = search rules

pub returns-in-Head : goal.returns-in-Head
unfolding transition
returns-in-Head c = search rules

pub returns-in_err-take-in-Body : goal.returns-in_err-take-in-Body
unfolding transition
returns-in_err-take-in-Body c = search rules

pub returns-in_ok-take-in-Body : goal.returns-in_ok-take-in-Body
unfolding transition
returns-in_ok-take-in-Body c = search rules

pub returns-in-Last : goal.returns-in-Last
unfolding transition
returns-in-Last c = search rules

pub returns-in-Nothing : goal.returns-in-Nothing
unfolding transition
returns-in-Nothing c = search rules
