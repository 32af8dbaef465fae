use Rattle.claim_table.proofs.steps.part.Given as goal

abbrev pub ghosts-part_off : goal.ghosts-part_off
ghosts-part_off a = record { parts = a.parts; left = a.left }
