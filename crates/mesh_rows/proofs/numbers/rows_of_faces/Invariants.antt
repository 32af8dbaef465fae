use Rattle.std.proofs.Common.{◌≡◌, map, take}
use Rattle.mesh_rows.proofs.numbers.rows_of_faces.Given as goal

-- the rows of a front
abbrev pub invariant-loop-face : goal.invariant-loop-face
invariant-loop-face g l = l.rows.items ≡ map (g.F.Face.row_of l.points) (take l.face-index l.faces)
