use Rattle.cell_stars.proofs.Planned.{stars_same, stars_more}
use Rattle.cell_stars.proofs.planner.add_stars.Goals as goal

pub loop-alloc-init : goal.loop-alloc-init
loop-alloc-init c = stars_same c.args.list.now.items

pub loop-alloc-preserved : goal.loop-alloc-preserved
loop-alloc-preserved c = stars_more c.args.list.now.items c.loop-alloc.list.items c.push.new.self.items (
  c.args.p,
  c.new.result.items,
) c.new.ensures.items c.in_ok-push.ensures.items c.loop-alloc.invariant
