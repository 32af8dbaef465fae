use Rattle.std.proofs.Common.{◌*◌, ◌∙◌, ap, sym, subst, length, List, Option}
use Rattle.cell_store.specs.Buckets.{StandAtPlaces, shown, no_room, BucketContent}
use Rattle.cell_store.proofs.Layouts.{shown_none, empty_places, len_none, stand_nowhere}
use Rattle.cell_store.proofs.hold.Hold.empty.Goals as goal

pub invariant_of-result : goal.invariant_of-result
invariant_of-result c =
    let e = empty_places c.loop.places.items c.loop.counter c.count-count.result
    (c.args.grid * c.args.grid * c.args.grid) c.loop.invariant c.loop-test.false c.loop.auto.counter-end
    c.count-count.ensures.value in (
      ap length e ∙ len_none (c.args.grid * c.args.grid * c.args.grid),
      tt,
      tt,
      tt,
      subst (λ l. StandAtPlaces c.args.grid (shown l)) (sym e)
          (subst (StandAtPlaces c.args.grid) (sym (shown_none (c.args.grid * c.args.grid * c.args.grid)))
          (stand_nowhere c.args.grid (c.args.grid * c.args.grid * c.args.grid))),
    )

pub returns : goal.returns
returns c =
    let e = empty_places c.loop.places.items c.loop.counter c.count-count.result
    (c.args.grid * c.args.grid * c.args.grid) c.loop.invariant c.loop-test.false c.loop.auto.counter-end
    c.count-count.ensures.value in
    ap (λ (l : List (Option BucketContent)). record { grid = c.args.grid; places = l; room = no_room })
    (ap shown e ∙ shown_none (c.args.grid * c.args.grid * c.args.grid))
