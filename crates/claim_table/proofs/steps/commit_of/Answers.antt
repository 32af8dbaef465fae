use Rattle.claim_table.proofs.StepsAllowed.{commits_by}
use Rattle.claim_table.proofs.steps.commit_of.Goals as goal

pub fetch_add-requires : goal.fetch_add-requires
fetch_add-requires o c =
    let t = c.args.board.now.shared in
    let r = c.requires in (
      r.live.0,
      r.words,
      commits_by t.key t.table_id.slots c.args.place.now.id c.args.tag _ c.args.edit _ c.args.reply _
          c.args.place.now.me r.intent.0 r.intent.1 r.intent.2 r.live.1 r.live.2 r.left r.key r.ready,
    )
