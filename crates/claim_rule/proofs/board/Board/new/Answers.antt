use Rattle.std.proofs.Common.{◌≡◌, ◌+◌, ◌*◌, List, refl, sym, ◌∙◌, ap, subst}
use Rattle.edit_history.specs.declared.history.Entry.{Entry}
use Rattle.claim_rule.specs.Good.{Good}
use Rattle.claim_rule.specs.Kept.{KeptBoard, board_of}
use Rattle.claim_rule.proofs.Began.{as_counted, begun_is, begun_good}
use Rattle.claim_rule.proofs.board.Board.new.Goals as goal

pub returns-clause-board : goal.returns-clause-board
returns-clause-board c =
    let mesh = c.args.mesh in
    let t = as_counted c.count-ticket.result _ c.args.allowance c.count-ticket.ensures.count c.requires.room in
    let w = c.in_ok-words.ensures ∙ ap (λ n. Rattle.std.proofs.Common.replicate n 0)
    (c.count.ensures.value ∙ ap (λ n. n * n * n) c.grid.ensures.grid) in
    let kept : List Entry → KeptBoard = λ h. record {
      hold = c.into_hold-hold.result;
      parts = c.args.parts;
      most = c.count-ticket.result + c.args.allowance;
      opening = h;
      ticket = c.count-ticket.result;
      words = c.in_ok-words.words.items;
      seats = c.in_ok-seats.seats.items;
    } in
    (λ i. board_of (kept (c.of-begun.ensures i).history))
    ∙ begun_is mesh (kept mesh.history) c.args.allowance c.into_hold-hold.ensures c.grid-2.ensures.placed refl t
    (ap (λ n. n + c.args.allowance) t) w c.in_ok-seats.ensures

pub invariant_of-result : goal.invariant_of-result
invariant_of-result c =
    subst Good (sym (returns-clause-board c)) (begun_good c.args.mesh c.into_hold-hold.result c.args.parts
    c.args.allowance c.into_hold-hold.ensures c.requires.parts.0 c.requires.parts.1 c.requires.room)

pub returns-clause-good : goal.returns-clause-good
returns-clause-good c = invariant_of-result c
