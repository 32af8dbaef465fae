use Rattle.std.proofs.Common.{◌≡◌, ◌∙◌, ◌<◌, ap, length, arith, ℕ}
use Rattle.std.specs.Prelude.{◌%◌}
use Rattle.std.proofs.Math.Nat.{mod-lt}
use Rattle.edit_history.specs.Edits.{point_of}
use Rattle.edit_lists.proofs.Deals.{put_last_is}
use Rattle.edit_lists.specs.declared.lists.List.{List}
use Rattle.edit_lists.proofs.cutting.put.Goals as goal

pub returns : goal.returns
returns c =
    let count : c.len.result ≡ length c.args.segment.now.each.items = c.len.ensures ∙ c.args.segment.now.each.ok.0 in
    let worker : c.worker_of-worker.result ≡ point_of c.args.edit % length c.args.segment.now.each.items =
    c.worker_of-worker.ensures ∙ ap (λ (n : ℕ). point_of c.args.edit % n) count in
    let below : c.worker_of-worker.result < length c.args.segment.now.each.items = (
    let a = mod-lt (point_of c.args.edit) c.requires.some in
    omega (arith, a, worker)
    ) in
    put_last_is (λ (l : List). l.pairs.items) c.args.segment.now.each.items c.worker_of-worker.result
    c.index_mut.result.now c.put_last.new.list (c.args.tag, c.args.edit) below worker c.index_mut.ensures.value
    c.in_ok-put_last.ensures
