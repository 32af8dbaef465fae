use Rattle.std.proofs.Common.{sym, ◌∙◌, inl, inr}
use Rattle.list_laws.proofs.Cited.{gather_none, gather_step, gathers}
use Rattle.cell_store.specs.Ready.{IsBucketOf}
use Rattle.cell_store.proofs.room.add_numbers_at.Goals as goal

pub loop-p-init : goal.loop-p-init
loop-p-init c = gather_none (IsBucketOf c.args.grid) c.args.points.now c.args.numbers.now.items

pub loop-p-preserved : goal.loop-p-preserved
loop-p-preserved c =
    let ens = c.in_ok-add_number.ensures in
    let number = c.bucket_of.ensures.number in
    gather_step (IsBucketOf c.args.grid) c.args.points.now c.loop-p.p-index c.args.numbers.now.items
    c.loop-p.numbers.items c.add_number.new.numbers.items c.p-item.result c.p-item.result c.loop-p-test.true c.p-item.is
    (λ n m. elim ((ens n).0 m) [ inl k ↦ inl k | inr q ↦ inr (sym number ∙ q) ])
    (λ n m. (ens n).1 (inl m)) (λ n r. (ens n).1 (inr (number ∙ r))) c.loop-p.invariant

pub returns : goal.returns
returns c = gathers (IsBucketOf c.args.grid) c.args.points.now c.loop-p.p-index c.args.numbers.now.items
    c.loop-p.numbers.items c.loop-p-test.false c.loop-p.invariant
