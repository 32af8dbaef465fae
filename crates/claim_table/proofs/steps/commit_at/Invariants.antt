use Rattle.claim_table.proofs.steps.commit_at.Given as goal

abbrev pub ghosts-commit_of : goal.ghosts-commit_of
ghosts-commit_of a = record { tag = a.tag; edit = a.edit; reply = a.reply }
