use Rattle.std.proofs.Common.{◌∙◌, ap}
use Rattle.cell_store.specs.Buckets.{Room}
use Rattle.grid_claims.proofs.Finishing.{goal_comes}
use Rattle.grid_claims.proofs.finish.bring.Goals as goal

pub put_goal-requires : goal.put_goal-requires
put_goal-requires c =
    goal_comes c.args.hold.now c.swap_cells.new.self c.args.gone.now c.args.fresh.now c.args.entry
    c.requires.points c.requires.right
    c.requires.room c.swap_cells.ensures.swapped (ap (λ (r : Room). r.point) c.swap_cells.ensures.room)

pub push_entry-requires : goal.push_entry-requires
push_entry-requires c =
    ap (λ (r : Room). r.push) (c.put_goal.ensures.room ∙ c.swap_cells.ensures.room)
    ∙ ap (λ (r : Room). r.push) c.requires.room

pub returns : goal.returns
returns c =
    record {
      between = c.swap_cells.new.self;
      swapped = c.swap_cells.ensures.swapped;
      with_goal = c.put_goal.new.self;
      arrived = c.put_goal.ensures.arrived;
      noted = c.push_entry.ensures.noted;
    }
