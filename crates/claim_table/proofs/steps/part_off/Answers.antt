use Rattle.std.proofs.Common.{◌<◌, ℕ, sym, ◌∙◌, subst}
use Rattle.claim_table.proofs.StepsAllowed.{splits_by, seats_allowed}
use Rattle.claim_table.proofs.steps.part_off.Goals as goal

pub load-found-requires : goal.load-found-requires
load-found-requires o c =
    let t = c.args.board.now.shared in
    let r = c.requires in (
      r.live.0,
      r.words,
      splits_by t.key t.table_id.slots c.args.place.now.id _ _ c.args.parts c.args.left
          c.args.place.now.me r.portion.0 r.portion.1 r.live.1 r.live.2 r.nothing r.some.0 r.some.1 r.some.2,
    )

pub split_seat-other-requires : goal.split_seat-other-requires
split_seat-other-requires o c =
    let t = c.args.board.now.shared in
    let r = c.requires in
    let told = c.load-found.ensures.2 in (
      c.load-found.ensures.0 ∙ r.live.0,
      r.words,
      seats_allowed t.key c.load-found.new.seat.id c.load-found.result _ _
          c.args.place.now.me.0 c.load-found.new.seat.me.0 told.view
          (subst (λ (x : ℕ). x < c.args.place.now.me.0.parts) (sym r.portion.0) r.some.1),
    )
