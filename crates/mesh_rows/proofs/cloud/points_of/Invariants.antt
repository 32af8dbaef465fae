use Rattle.std.proofs.Common.{◌≡◌, map, take}
use Rattle.del_laws.specs.Keys.{AreKeys}
use Rattle.mesh_rows.specs.Rows.{point_place}
use Rattle.mesh_rows.proofs.cloud.points_of.Given as goal

-- the points at a front of the places
abbrev pub invariant-loop-place : goal.invariant-loop-place
invariant-loop-place l = (map point_place l.points.items ≡ take l.place-index l.given) × AreKeys l.points.items
