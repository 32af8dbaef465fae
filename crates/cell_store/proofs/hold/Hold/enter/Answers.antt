use Rattle.std.proofs.Common.{◌∙◌, ap}
use Rattle.cell_store.proofs.BetweenLaws.{way_absent, way_found}
use Rattle.cell_store.specs.Buckets.{Room, swap_after}
use Rattle.cell_store.proofs.hold.Hold.enter.Goals as goal

pub swap_cells-requires-clause-found : goal.swap_cells-requires-clause-found
swap_cells-requires-clause-found c b = way_found c.args.self.now c.requires.enters.0 c.args.gone.now c.args.fresh.now
    c.args.p c.requires.enters.1

pub put_point-requires-clause-room : goal.put_point-requires-clause-room
put_point-requires-clause-room c = ap (λ (r : Room). r.point) c.swap_cells.ensures.room ∙ c.requires.room.point

pub put_point-requires-clause-absent : goal.put_point-requires-clause-absent
put_point-requires-clause-absent c = way_absent c.args.self.now c.swap_cells.new.self c.requires.enters.0
    c.args.gone.now c.args.fresh.now c.args.p c.requires.enters.1 c.swap_cells.ensures.swapped

pub returns : goal.returns
returns c = record {
  entered = record {
    between = c.swap_cells.new.self;
    swapped = c.swap_cells.ensures.swapped;
    put =
        c.put_point.ensures.put;
  };
  room = c.put_point.ensures.room ∙ c.swap_cells.ensures.room ∙ ap
      (λ b. record c.args.self.now.room { swap = swap_after b c.args.gone.now c.args.fresh.now }) c.requires.room.back;
}
