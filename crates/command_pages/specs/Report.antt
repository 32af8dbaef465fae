-- What is written of a history.
use Rattle.std.specs.Prelude.{ℕ, ◌+◌, Bool, length, List, [], map, Option, None, Some, if◌then◌else◌}
use Rattle.point_order.specs.Complex.{complex}
use Rattle.edit_history.specs.declared.history.Entry.{Entry}
use Rattle.edit_history.specs.Histories.{replay}
use Rattle.plain_laws.specs.Plain.{replies_by_tag}
use Rattle.edit_files.specs.Content.{Content, alpha_of}
use Rattle.edit_files.specs.declared.version.Version.{Version}
use Rattle.alpha_complex.specs.Shapes.{ShapeParts, shape_of}
use Rattle.mesh_files.specs.Text.{ReportParts, report_text}

-- how many point and edit lines a file has
abbrev pub line_count : Content → ℕ
line_count file = length file.points + length file.edits

-- the tags of a history, in its order
abbrev pub tags_of : List Entry → List ℕ
tags_of h = map (λ e. e.tag) h

-- the tags, where they are asked for
abbrev pub order_of : Bool → List Entry → Option (List ℕ)
order_of order h = if order then Some (tags_of h) else None

-- the alpha complex of a set for each radius of a file of the version, in their order, where they are asked for; each
-- stands with the number of its radius line
abbrev pub shapes_of : Bool → Version → List ℕ → List ℕ → List (ℕ × ShapeParts)
shapes_of shape version radii s =
    if shape then map (λ radius. (radius, shape_of s (alpha_of version radius))) radii else []

-- the report of a history of a file's lines, with a shape for each of the file's radii or none, and with its order
-- block or not: its replies, the points that it leaves, and the complex of these
abbrev pub report_of : Bool → Bool → Content → List Entry → ReportParts
report_of shape order file h =
    record {
      replies = replies_by_tag (line_count file) h;
      points = replay h;
      cells = complex (replay h);
      shapes = shapes_of shape file.version file.radii (replay h);
      order = order_of order h;
    }

-- its text
abbrev pub text_of_history : Bool → Bool → Content → List Entry → List ℕ
text_of_history shape order file h = report_text (report_of shape order file h)
