use Rattle.command_ends.proofs.AnchoredRuns.{near_plainly, near_plainly_front, no_alpha_plainly, no_part_plainly}
use Rattle.command_ends.proofs.AnchoredRuns.{parts_plainly, parts_plainly_front, steps_plainly, steps_plainly_front}
use Rattle.command_ends.proofs.laws.run_of_an_anchored_file.Goals as goal

pub returns-clause-steps : goal.returns-clause-steps
returns-clause-steps c = λ r. steps_plainly r.ends

pub returns-clause-steps_front : goal.returns-clause-steps_front
returns-clause-steps_front c = λ r. steps_plainly_front r.ends

pub returns-clause-parts : goal.returns-clause-parts
returns-clause-parts c = λ r. parts_plainly r.ends

pub returns-clause-parts_front : goal.returns-clause-parts_front
returns-clause-parts_front c = λ r. parts_plainly_front r.ends

pub returns-clause-near : goal.returns-clause-near
returns-clause-near c = λ r. near_plainly r.ends

pub returns-clause-near_front : goal.returns-clause-near_front
returns-clause-near_front c = λ r. near_plainly_front r.ends

pub returns-clause-no_alpha : goal.returns-clause-no_alpha
returns-clause-no_alpha c = λ r. no_alpha_plainly r.ends

pub returns-clause-no_part : goal.returns-clause-no_part
returns-clause-no_part c = λ r. no_part_plainly r.ends
