use Rattle.std.proofs.Common.{refl}
use Rattle.part_edits.proofs.Worked.{no_more}
use Rattle.part_edits.proofs.work.no_answers.Goals as goal

pub loop-init : goal.loop-init
loop-init c = rw c.in_ok-answers.ensures.items (refl, λ i. refl)

pub loop-preserved : goal.loop-preserved
loop-preserved c =
    let i = c.loop.invariant in
    rw c.in_ok-push.ensures.items (no_more c.loop.answers.items c.loop.counter i.0 i.1)
