use Rattle.round_table.proofs.Hands.{all_stay}
use Rattle.round_table.proofs.taking.take_side_by_side.Goals as goal

pub returns : goal.returns
returns g c =
    all_stay c.args.contents.items c.args.states.items c.in_ok-states.states.items c.in_ok-states.rest.items
    c.requires.empty c.in_ok-states.ensures
