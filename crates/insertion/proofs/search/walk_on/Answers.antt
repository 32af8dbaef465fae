use Rattle.std.proofs.Common.{sym, subst}
use Rattle.cell_walk.specs.Paths.{Walking}
use Rattle.insertion.specs.declared.search.Search.TheVariants.{On}
use Rattle.insertion.specs.Searches.{IsSearchIn}
use Rattle.insertion.proofs.Searches.{stopped_lacks}
use Rattle.insertion.proofs.search.walk_on.Goals as goal

pub returns-in-Need : goal.returns-in-Need
returns-in-Need c s sh new k =
    let hold = c.args.hold.now in
    let i = c.loop.invariant s sh new k in
    let g = c.in-Need.ensures s sh i.1 in (
      stopped_lacks hold s c.loop.walk c.in-Need.b c.grid.ensures.size c.grid.ensures.places g.1,
      subst (λ (w : Walking). IsSearchIn hold s c.args.p (On w)) (sym g.0) i,
    )
