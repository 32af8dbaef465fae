use Rattle.std.proofs.Common.{◌∙◌, ap}
use Rattle.round_table.proofs.Hands.{takes_none, takes_both}
use Rattle.round_table.proofs.taking.take_each.Goals as goal

pub loop-bucket-init : goal.loop-bucket-init
loop-bucket-init g c = (
  takes_none c.args.table.now.contents c.args.pass.now c.args.hand.now.items,
  c.requires,
)

pub take_one-requires : goal.take_one-requires
take_one-requires g c = c.loop-bucket.invariant.1

pub loop-bucket-preserved : goal.loop-bucket-preserved
loop-bucket-preserved g c = (
  takes_both c.args.table.now.contents c.args.pass.now c.loop-bucket.pass c.take_one.new.pass c.args.hand.now.items
      c.loop-bucket.hand.items c.take_one.new.hand.items c.loop-bucket.invariant.0 c.take_one.ensures,
  ap (λ p. p.table) c.take_one.ensures.new_is ∙ c.loop-bucket.invariant.1,
)

pub returns : goal.returns
returns g c = c.loop-bucket.invariant.0
