use Rattle.std.proofs.Common.{refl, sym, ap, ◌∙◌}
use Rattle.command_words.specs.Stops.{status_of_end}
use Rattle.command_ends.proofs.ends.close.Goals as goal
use Rattle.command_ends.proofs.ends.close.Goals.{in-Some, in-None}

pub returns-clause-status : goal.returns-clause-status
returns-clause-status c =
    elim c.match-stop.branch [
      | in-Some w ↦ w.status-is ∙ w.told.ensures.status ∙ sym (ap status_of_end w.in-Some.is)
      | in-None w ↦ w.status-is ∙ sym (ap status_of_end w.in-None.is)
    ]

pub returns-clause-stop : goal.returns-clause-stop
returns-clause-stop c = refl

pub returns-clause-kept : goal.returns-clause-kept
returns-clause-kept c = refl
