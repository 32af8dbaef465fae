use Rattle.cell_stars.proofs.writes.likely_spare.Goals as goal

pub returns-then-is_spare : goal.returns-then-is_spare
returns-then-is_spare c = (c.if-n-least.true, c.is_spare.ensures.spare c.if-is_spare.true)
