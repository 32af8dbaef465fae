use Rattle.cell_walk.proofs.Cited.{start_is_walk}
use Rattle.worked_cases.proofs.walks.put_walk.Goals as goal

pub put_steps-requires : goal.put_steps-requires
put_steps-requires c =
    let r = c.requires in (
      r.0,
      r.1,
      start_is_walk c.args.hold.now r.0 c.args.p c.in-At.walk r.1 (c.is_new.ensures c.if-is_new.true r.0 r.1)
          c.in-At.ensures,
    )
