use Rattle.std.proofs.Common.{◌≡◌, [], take}
use Rattle.cell_slots.specs.Nets.{cells_of_slots}
use Rattle.cell_slots.specs.Parts.{ArePut}
use Rattle.cell_slots.specs.declared.reach.Reach.TheVariants.{Whole}
use Rattle.net_digs.specs.declared.choice.Choice.TheVariants.{All}
use Rattle.net_digs.proofs.grow.put_points.Given as goal

abbrev pub invariant-loop-turn : goal.invariant-loop-turn
invariant-loop-turn l =
    ArePut (take l.turn-index l.turns) l.left.items (cells_of_slots l.initial.net) (cells_of_slots l.net)
    × (l.reach ≡ Whole → l.choice ≡ All → l.left.items ≡ [])
