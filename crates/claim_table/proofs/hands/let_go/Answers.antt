use Rattle.std.proofs.Common.{refl}
use Rattle.claim_table.specs.Faces.{buckets_of}
use Rattle.claim_table.proofs.MoreHands.{hands_empty}
use Rattle.claim_table.proofs.hands.let_go.Goals as goal

pub returns-clause-hands : goal.returns-clause-hands
returns-clause-hands c =
    let e = c.release_all.ensures in
    hands_empty c.args.board.now.shared.table_id (buckets_of c.args.board.now.shared.key) c.args.hands.now
    (record {
      place = c.release_all.new.place;
      hold = c.release_all.new.hold;
      order = c.release_all.new.order;
      first = c.args.hands.now.first;
    })
    c.requires.hands e.seat.0 (record { view = e.view }) e.carries e.order e.grid.0 e.grid.1 e.capacity refl
