use Rattle.std.proofs.Common.{◌≡◌, [], ◌++◌, take}
use Rattle.std.specs.Prelude.{map}
use Rattle.std.specs.List.{flat_map}
use Rattle.point_order.specs.declared.cell.Cell.TheVariants.{Full, Open}
use Rattle.mesh_check.specs.Sides.{sides_in}
use Rattle.mesh_check.proofs.gaps.all_sides.Given as goal

abbrev pub invariant-loop-place : goal.invariant-loop-place
invariant-loop-place l = l.sides.items ≡ flat_map (sides_in l.part) ([] ++ map Full (take l.place l.cells))

abbrev pub invariant-loop-tri : goal.invariant-loop-tri
invariant-loop-tri l = l.sides.items ≡ flat_map (sides_in l.part)
    (map Full l.cells ++ map Open (take l.tri-index l.hull))
