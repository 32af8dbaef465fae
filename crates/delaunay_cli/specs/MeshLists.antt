-- What a mesh leaves.
use Rattle.std.specs.Prelude.{◌≡◌, true}
use Rattle.point_order.specs.Complex.{complex}
use Rattle.point_order.specs.Sets.{IsAscending}
use Rattle.point_order.specs.Solid.{is_solid}
use Rattle.del_laws.specs.Keys.{AreKeys}
use Rattle.edit_history.specs.Histories.{IsLegal, replay}
use Rattle.delaunay_cli.specs.declared.mesh_lists.MeshLists.{MeshLists}

-- The history is legal; these are the points that it leaves, ascending and solid, and the cells of their complex.
pub record AreLists (lists : MeshLists) : Type 0 where
  pub legal : IsLegal lists.history.items
  pub points : lists.points.items ≡ replay lists.history.items
  pub cells : lists.cells.items ≡ complex (replay lists.history.items)
  pub ascending : IsAscending (replay lists.history.items)
  pub solid : is_solid (replay lists.history.items) ≡ true
  pub keys : AreKeys (replay lists.history.items)
