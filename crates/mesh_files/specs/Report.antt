-- A report as its text sees it.
use Rattle.std.specs.Prelude.{ℕ, List, map, Vec}
use Rattle.std.specs.Option.{option_map}
use Rattle.std.specs.declared.alloc.Global.{Global}
use Rattle.mesh_files.specs.declared.report.Report.{Report}
use Rattle.point_order.specs.Sets.{IsIn, IsAscending}
use Rattle.alpha_complex.specs.Shapes.{ShapeParts}
use Rattle.alpha_complex.specs.Slots.{shape_seen, ShapeSlots}
use Rattle.mesh_files.specs.Text.{ReportParts, counted_points}

-- shapes, each behind its radius
abbrev pub shapes_seen : List (ℕ × ShapeSlots) → List (ℕ × ShapeParts)
shapes_seen shapes = map (λ s. (s.0, shape_seen s.1)) shapes

-- the points by which each of the shapes counts ascend
pub record AreCountedInOrder (shapes : List (ℕ × ShapeParts)) : Type 0 where
  pub ascending : (s : ℕ × ShapeParts) → IsIn s shapes → IsAscending (counted_points s.1)

abbrev pub parts_of : Report → ReportParts
parts_of r =
    record {
      replies = r.replies.items;
      points = r.points.items;
      cells = r.cells.now;
      shapes = shapes_seen r.shapes.items;
      order = option_map (λ (tags : Vec ℕ Global). tags.items) r.order;
    }
