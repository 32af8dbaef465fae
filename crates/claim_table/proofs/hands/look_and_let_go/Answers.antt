use Rattle.std.proofs.Common.{refl}
use Rattle.claim_table.specs.Faces.{buckets_of}
use Rattle.claim_table.proofs.Showing.{hands_looked}
use Rattle.claim_table.proofs.hands.look_and_let_go.Goals as goal

-- after the look the hands are as they were
pub let_go-requires : goal.let_go-requires
let_go-requires c =
    let e = c.show_at-found.ensures in
    record {
      hands =
          hands_looked c.args.board.now.shared.table_id (buckets_of c.args.board.now.shared.key) c.show_at-found.result
          c.args.hands.now (record {
            place = c.show_at-found.new.place;
            hold = c.args.hands.now.hold;
            order = c.args.hands.now.order;
            first = c.args.hands.now.first;
          })
          c.requires.hands e.seat.0 e.shown refl refl refl;
    }
