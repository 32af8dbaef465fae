use Rattle.worked_cases.proofs.buckets.put_counted.Given as goal

abbrev pub ghosts-put_searched : goal.ghosts-put_searched
ghosts-put_searched a = record { name = a.blank.name; parts = a.blank.parts }
