use Rattle.std.proofs.Common.{◌∷◌, []}
use Rattle.cell_slots.specs.Nets.{cells_of_slots}
use Rattle.cell_slots.proofs.Cited.{moved_none, put_none}
use Rattle.net_digs.proofs.grow.put_chosen.Goals as goal

pub returns-then-passes_over-clause-put : goal.returns-then-passes_over-clause-put
returns-then-passes_over-clause-put c =
    let cells = cells_of_slots c.args.net.now in (
      c.args.turn.now ∷ [],
      rw c.copied.ensures at c.in_ok-push.ensures.items,
      put_none (c.args.turn.now ∷ []) cells cells (moved_none cells),
    )

pub returns-then-passes_over-clause-all : goal.returns-then-passes_over-clause-all
returns-then-passes_over-clause-all c e f = absurd (c.passes_over.ensures c.if-passes_over.true f)

pub put_or_leave-requires : goal.put_or_leave-requires
put_or_leave-requires c = rw c.visit.ensures c.requires

pub returns-clause-put : goal.returns-clause-put
returns-clause-put c = rw c.visit.ensures at c.in_ok-put_or_leave.ensures.put

pub returns-clause-all : goal.returns-clause-all
returns-clause-all c e f = c.in_ok-put_or_leave.ensures.all e
