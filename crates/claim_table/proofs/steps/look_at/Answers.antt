use Rattle.claim_table.proofs.StepsAllowed.{looks_allowed}
use Rattle.claim_table.proofs.steps.look_at.Goals as goal

pub load-requires : goal.load-requires
load-requires c =
    let t = c.args.board.now.shared in (
      c.requires.live.0,
      c.requires.words,
      looks_allowed t.key t.table_id.slots c.args.place.now.id c.args.place.now.me
          c.requires.live.1 c.requires.live.2,
    )
