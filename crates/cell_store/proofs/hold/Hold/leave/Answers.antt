use Rattle.std.proofs.Common.{◌∙◌, ap}
use Rattle.cell_store.proofs.BetweenLaws.{back_found, way_present}
use Rattle.cell_store.specs.Buckets.{Room, swap_after}
use Rattle.cell_store.proofs.hold.Hold.leave.Goals as goal

pub drop_point-requires-clause-present : goal.drop_point-requires-clause-present
drop_point-requires-clause-present c = way_present c.args.self.now c.args.gone.now c.args.fresh.now c.args.p
    c.requires.entered

pub swap_cells-requires-clause-room : goal.swap_cells-requires-clause-room
swap_cells-requires-clause-room c = ap (λ (r : Room). r.swap) c.drop_point.ensures.room ∙ c.requires.room.swap

pub swap_cells-requires-clause-found : goal.swap_cells-requires-clause-found
swap_cells-requires-clause-found c b = back_found c.args.self.now c.drop_point.new.self c.args.gone.now c.args.fresh.now
    c.args.p c.requires.entered c.drop_point.ensures.dropped

-- the point was dropped and the exchange made back, and there is room for both again
pub returns : goal.returns
returns c = record {
  left = record {
    between = c.drop_point.new.self;
    dropped = c.drop_point.ensures.dropped;
    swapped =
        c.swap_cells.ensures.swapped;
  };
  room =
      c.swap_cells.ensures.room
      ∙ ap (λ (r : Room). record r { swap = swap_after r.back c.args.fresh.now c.args.gone.now })
      c.drop_point.ensures.room
      ∙ ap (λ b. record c.args.self.now.room { swap = swap_after b c.args.fresh.now c.args.gone.now })
      c.requires.room.back;
}
