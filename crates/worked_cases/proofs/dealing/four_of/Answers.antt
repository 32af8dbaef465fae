use Rattle.std.specs.Prelude.{◌≡◌, ℕ, List, Some}
use Rattle.std.specs.Option.{option_map}
use Rattle.std.proofs.Common.{subst}
use Rattle.edit_history.specs.Opening.{opening_four}
use Rattle.edit_history.specs.OneThread.{places}
use Rattle.edit_lists.proofs.Cited.{are_opening}
use Rattle.worked_cases.proofs.dealing.four_of.Goals as goal

pub returns-in-Ok : goal.returns-in-Ok
returns-in-Ok c =
    are_opening c.args.file.now.points.items c.in-Ok.four
    (subst (λ (l : List ℕ). option_map places (opening_four l) ≡ Some c.in-Ok.four) c.deref.ensures.value
    c.in-Ok.ensures.found)
