use Rattle.claim_table.proofs.StepsAllowed.{releases_by}
use Rattle.claim_table.proofs.steps.release_at.Goals as goal

pub store-requires : goal.store-requires
store-requires c =
    let t = c.args.board.now.shared in
    let r = c.requires in (
      r.live.0,
      r.words,
      releases_by t.key t.table_id.slots c.args.place.now.id c.args.b c.args.place.now.me r.slot.0
          r.live.1 r.live.2 r.slot.1 r.slot.2,
    )
