use Rattle.std.proofs.Common.{◌≡◌, Some, refl, get_or}
use Rattle.list_laws.proofs.Cited.{each_more, not_both}
use Rattle.cell_stars.specs.Places.{at_slot}
use Rattle.cell_stars.proofs.MoveLaws.{another, no_cell}
use Rattle.cell_stars.proofs.slots.place_among.Goals as goal
use Rattle.cell_stars.proofs.slots.place_among.Goals.{in-Some+else-is_same, in_default}

pub loop-i-preserved : goal.loop-i-preserved
loop-i-preserved c =
    let slots = c.args.slots.now in
    let star = c.args.star.now in
    let cell = c.args.cell.now in
    let x = get_or star c.loop-i.i-index 0 in
    each_more (λ i. at_slot slots i ≡ Some cell → ⊥) star c.loop-i.i-index x 0 c.loop-i-test.true refl
    c.loop-i.invariant
    (elim c.match-cell_at.branch [
      | in-Some+else-is_same w ↦ another slots x w.in-Some.other.now cell w.in-Some.ensures
          (λ e. not_both w.is_same.result (w.is_same.ensures.1 e) w.if-is_same.false)
      | in_default w ↦ no_cell slots x cell w.in_default.ensures
    ])
