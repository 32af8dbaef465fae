use Rattle.part_edits.proofs.work.make_or_leave.Goals as goal

pub returns-in-Add-clause-made : goal.returns-in-Add-clause-made
returns-in-Add-clause-made c = rw c.in-Add.is c.add_known.ensures.made

pub returns-in-Take-clause-made : goal.returns-in-Take-clause-made
returns-in-Take-clause-made c = rw c.in-Take.is c.take_known.ensures.made
