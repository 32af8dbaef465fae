use Rattle.std.proofs.Common.{◌≡◌, List, length, sym, ◌∙◌, ap, subst, arith}
use Rattle.round_table.specs.declared.worker.Worker.{Worker}
use Rattle.round_table.specs.Jobs.{AreFresh}
use Rattle.round_table.proofs.Worked.{fresh_all, round_is, written}
use Rattle.round_table.proofs.running.round.Goals as goal

pub work_side_by_side-requires-after_bounds : goal.work_side_by_side-requires-after_bounds
work_side_by_side-requires-after_bounds g c κs within =
    let t = c.in_ok-table.table in
    subst (λ (l : List (Worker g.row.T.Denot g.row.S.Denot)). AreFresh t l) (sym c.as_mut_slice.ensures.value)
    (fresh_all t c.in_ok-table.workers.items c.in_ok-table.ensures.passes)

pub returns : goal.returns
returns g c =
    let t = c.in_ok-table.table in
    let w = c.work_side_by_side.ensures in
    let n = ap length c.as_mut_slice.ensures.value in
    let m = c.as_mut_slice.ensures.len in
    round_is g.J.Job.makes t c.args.contents.items c.args.states.items c.in_ok-states.states.items
    c.as_mut_slice.result.now c.work_side_by_side.new.workers _ c.in_ok-states.rest.items
    (subst (λ (l : List (Worker g.row.T.Denot g.row.S.Denot)).
    Rattle.round_table.specs.Workers.passes_of l ≡ Rattle.round_table.specs.Rounds.fresh_passes t)
    (sym c.as_mut_slice.ensures.value) c.in_ok-table.ensures.passes)
    (ap (λ (l : List (Worker g.row.T.Denot g.row.S.Denot)). Rattle.round_table.specs.Workers.states_of l)
    c.as_mut_slice.ensures.value ∙ c.in_ok-table.ensures.states)
    c.in_ok-table.ensures.contents w (written _ _ _ (omega arith) (omega arith)) c.in_ok-states.ensures.states
    c.in_ok-states.ensures.parted
