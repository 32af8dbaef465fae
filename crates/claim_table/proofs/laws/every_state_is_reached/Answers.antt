use Rattle.claim_table.proofs.Reached.{every_state, by_a_run}
use Rattle.claim_table.proofs.laws.every_state_is_reached.Goals as goal

pub returns-clause-reached : goal.returns-clause-reached
returns-clause-reached c = every_state

pub returns-clause-run : goal.returns-clause-run
returns-clause-run c = by_a_run
