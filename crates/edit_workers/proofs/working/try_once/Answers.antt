use Rattle.std.proofs.Common.{arith}
use Rattle.edit_workers.proofs.Worked.{made_once, missed_once, missed_none}
use Rattle.edit_workers.proofs.working.try_once.Goals as goal

pub try_edit-requires : goal.try_edit-requires
try_edit-requires g c = record { table = c.requires.table }

pub unreachable-requires : goal.unreachable-requires
unreachable-requires g c =
    let r = rw c.in-Err-Spent.field-0-is at c.in-Err-Spent.ensures.refused in
    let l = c.requires.left in
    omega (arith, r.0, l)

pub returns-in-Ok-clause-tried : goal.returns-in-Ok-clause-tried
returns-in-Ok-clause-tried g c =
    made_once c.args.tag c.args.edit c.in-Ok.field-0.number c.in-Ok.field-0.reply c.args.pass.now c.try_edit.new.pass
    c.in-Ok.ensures.edited

pub returns-in-Err-Busy-clause-tried : goal.returns-in-Err-Busy-clause-tried
returns-in-Err-Busy-clause-tried g c =
    let r = rw c.in-Err-Busy.field-0-is at c.in-Err-Busy.ensures.refused in
    missed_once c.args.pass.now c.try_edit.new.pass c.in-Err-Busy.field-0-0 c.in-Err-Busy.field-0-1 r.1 r.2

pub returns-in-Err-Memory-clause-broken : goal.returns-in-Err-Memory-clause-broken
returns-in-Err-Memory-clause-broken g c =
    let r = rw c.in-Err-Memory.field-0-is at c.in-Err-Memory.ensures.refused in
    missed_none c.args.pass.now c.try_edit.new.pass r.1
