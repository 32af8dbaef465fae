use Rattle.std.specs.Prelude.{[]}
use Rattle.std.proofs.Common.{arith}
use Rattle.edit_history.proofs.OneMore.{replay_more, legal_more}
use Rattle.edit_history.proofs.laws.history_with_an_entry.Goals as goal

pub returns-clause-leaves : goal.returns-clause-leaves
returns-clause-leaves c = replay_more []

pub returns-clause-legal : goal.returns-clause-legal
returns-clause-legal c = λ h e l number reply. legal_more 0 [] h e l (omega (arith, number)) reply
