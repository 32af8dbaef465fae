use Rattle.std.proofs.Common.{subst, sym, ◌++◌, ◌∷◌, [], List}
use Rattle.edit_workers.specs.declared.rounds.Waiting.{Waiting}
use Rattle.edit_workers.specs.Rounds.{AreMadeOrWait, fresh}
use Rattle.edit_workers.proofs.Waits.{all_wait}
use Rattle.edit_workers.proofs.rounds.come.Goals as goal

pub returns-else-is_last : goal.returns-else-is_last
returns-else-is_last g c =
    let all = c.args.waiting.now.items ++ fresh c.args.pair ∷ [] in
    subst (λ (l : List Waiting). AreMadeOrWait all l c.args.pass.now c.args.pass.now) (sym c.in_ok-push.ensures.items)
    (all_wait all c.args.pass.now)
