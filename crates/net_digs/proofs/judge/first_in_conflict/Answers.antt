use Rattle.std.proofs.Common.{subst}
use Rattle.cell_slots.specs.Nets.{cells_of_slots}
use Rattle.cell_slots.specs.Parts.{AreWithinNew}
use Rattle.cell_slots.specs.declared.reach.Reach.{Reach}
use Rattle.net_digs.proofs.judge.first_in_conflict.Goals as goal

pub first_of_all-requires : goal.first_of_all-requires
first_of_all-requires c =
    subst (λ (r : Reach). AreWithinNew r c.args.p (cells_of_slots c.args.net.now)) c.in-Whole.is c.requires
