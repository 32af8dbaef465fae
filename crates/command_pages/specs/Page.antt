-- What a command makes.
use Rattle.std.specs.Prelude.{◌≡◌, ℕ, Bool, true, List, [], map, Option, None, Some, Vec, if◌then◌else◌, ⊤}
use Rattle.std.specs.Option.{option_map}
use Rattle.std.specs.declared.alloc.Global.{Global}
use Rattle.point_order.specs.Complex.{complex}
use Rattle.point_order.specs.Sets.{IsAscending}
use Rattle.point_order.specs.Solid.{is_solid}
use Rattle.del_laws.specs.Keys.{AreKeys}
use Rattle.edit_history.specs.Histories.{IsLegal}
use Rattle.face_list.specs.Seen.{FaceLists}
use Rattle.alpha_complex.specs.Condition.{AreFacesOf}
use Rattle.alpha_complex.specs.Shapes.{shape_of}
use Rattle.mesh_files.specs.Summary.{summary_text}
use Rattle.mesh_files.specs.Text.{ReportParts, report_text}
use Rattle.edit_files.specs.Content.{alpha_of}
use Rattle.command_pages.specs.Reading.{AreRadii}
use Rattle.command_pages.specs.declared.made.Form.{Form}
use Rattle.command_pages.specs.declared.made.Form.TheVariants.{Whole, Summary}
use Rattle.command_pages.specs.declared.made.Made.{Made}
use Rattle.command_pages.specs.declared.made.Page.{Page}
use Rattle.command_pages.specs.declared.made.Page.TheVariants.{Text, Report}
use Rattle.command_pages.specs.declared.made.Parts.{Parts}
use Rattle.command_words.specs.Stops.{IsLate}

-- the radii of the shapes that are asked for
abbrev pub radii_of : Bool → List ℕ → List ℕ
radii_of shape radii = if shape then radii else []

-- the report that these are the parts of: with the alpha complex of its points for each radius
abbrev pub report_of_parts : Parts → ReportParts
report_of_parts r =
    record {
      replies = r.replies.items;
      points = r.points.items;
      cells = r.cells.items;
      shapes = map (λ radius. (radius, shape_of r.points.items (alpha_of r.version radius))) r.radii.items;
      order = option_map (λ (tags : Vec ℕ Global). tags.items) r.order;
    }

-- the bytes of a report in a form
abbrev pub text_of_form : Form → ReportParts → List ℕ
text_of_form Whole report = report_text report
text_of_form Summary report = summary_text report

-- the bytes of a page
abbrev pub text_of_page : Page → List ℕ
text_of_page (Text text) = text.items
text_of_page (Report form parts) = text_of_form form (report_of_parts parts)

-- The parts are those of a solid set, its complex, and radii of their version.
pub record AreReportParts (parts : Parts) : Type 0 where
  pub ascending : IsAscending parts.points.items
  pub keys : AreKeys parts.points.items
  pub solid : is_solid parts.points.items ≡ true
  pub cells : parts.cells.items ≡ complex parts.points.items
  pub radii : AreRadii parts.version parts.radii.items

-- the parts of a report are ready
abbrev pub IsWritable : Page → Type 0
IsWritable (Text text) = ⊤
IsWritable (Report form parts) = AreReportParts parts

-- The history is legal, the page can be written, and what is told of it comes after a whole text.
pub record IsFitToWrite (made : Made) : Type 0 where
  pub legal : IsLegal made.kept.items
  pub writable : IsWritable made.page
  pub late : IsLate made.after

-- the faces are those of the set, and there are none only where there are no radii
abbrev pub AreFacesFor : List ℕ → List ℕ → Option FaceLists → Type 0
AreFacesFor radii s None = radii ≡ []
AreFacesFor radii s (Some faces) = AreFacesOf s faces
