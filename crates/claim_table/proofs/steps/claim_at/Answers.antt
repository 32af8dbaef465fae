use Rattle.std.proofs.Common.{arith}
use Rattle.claim_table.proofs.StepsAllowed.{claims_by}
use Rattle.claim_table.proofs.steps.claim_at.Goals as goal

pub compare_exchange-requires : goal.compare_exchange-requires
compare_exchange-requires c =
    let t = c.args.board.now.shared in
    let words = c.requires.words.0 in
    let inside = c.requires.words.1 in (
      c.requires.live.0,
      omega arith,
      claims_by t.key t.table_id.slots c.args.place.now.id c.args.b c.args.first
          c.args.place.now.me inside c.requires.absent c.requires.live.1 c.requires.live.2 c.requires.first,
    )
