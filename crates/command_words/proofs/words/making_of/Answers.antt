use Rattle.std.proofs.Common.{rules}
use Rattle.command_words.proofs.words.making_of.Goals as goal

pub returns-in-Ok-clause-making : goal.returns-in-Ok-clause-making
returns-in-Ok-clause-making c = record { workers = c.number_of-workers.ensures.value; grid = search rules }
