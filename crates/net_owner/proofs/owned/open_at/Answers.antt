use Rattle.std.proofs.Common.{append-nil, subst, sym, []}
use Rattle.cell_slots.specs.Clouds.{AreCellsOf}
use Rattle.cell_slots.specs.Nets.{cells_of_slots}
use Rattle.cell_net.proofs.Cited.{whole_within}
use Rattle.net_owner.proofs.owned.open_at.Goals as goal

pub star_of-requires-clause-within : goal.star_of-requires-clause-within
star_of-requires-clause-within c = whole_within c.requires.0 (cells_of_slots c.args.net.now) c.requires.1

pub returns-clause-star : goal.returns-clause-star
returns-clause-star c s k =
    let f = rw c.in-Some.is at c.in_ok-star.ensures in
    f.1 [] s (subst (AreCellsOf s) (sym (append-nil (cells_of_slots c.args.net.now))) k)
