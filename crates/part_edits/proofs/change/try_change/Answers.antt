use Rattle.part_edits.proofs.change.try_change.Goals as goal

pub returns-in-Add-clause-made : goal.returns-in-Add-clause-made
returns-in-Add-clause-made c = rw c.in-Add.is c.try_add.ensures.made

pub returns-in-Take-clause-made : goal.returns-in-Take-clause-made
returns-in-Take-clause-made c = rw c.in-Take.is c.try_take.ensures.made
