use Rattle.std.proofs.Common.{length, arith, ap, subst, List}
use Rattle.plain_laws.specs.Running.{Pair}
use Rattle.edit_lists.specs.Dealing.{pairs_in}
use Rattle.edit_workers.specs.Running.{AreApplied}
use Rattle.edit_workers.proofs.Partly.{room_left, whole_run}
use Rattle.edit_workers.proofs.running.run_beside.Goals as goal

pub apply_all-requires : goal.apply_all-requires
apply_all-requires g c =
    let left = c.in_ok-mesh.left.pairs.items in
    let sorted = c.sort_by_tag.new.left.pairs.items in
    let m = room_left (pairs_in c.args.lists.now) left sorted c.args.mesh.history c.in_ok-mesh.mesh.history
    c.in_ok-mesh.ensures.run c.sort_by_tag.ensures in
    omega (arith, m, c.requires.room, ap length c.deref.ensures.value)

pub returns-clause-run : goal.returns-clause-run
returns-clause-run g c =
    let left = c.in_ok-mesh.left.pairs.items in
    let sorted = c.sort_by_tag.new.left.pairs.items in
    let mesh = c.in_ok-mesh.mesh.history in
    whole_run (pairs_in c.args.lists.now) left sorted c.args.mesh.history mesh c.apply_all.new.mesh.history
    c.requires.lists.some c.in_ok-mesh.ensures.run c.sort_by_tag.ensures
    (subst (λ (s : List Pair). AreApplied s mesh c.apply_all.new.mesh.history) c.deref.ensures.value
    c.in_ok-apply_all.ensures.applied) c.count.ensures.sound.legal c.requires.lists.alone
