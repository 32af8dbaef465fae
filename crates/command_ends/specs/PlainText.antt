-- The text of an anchored file: it goes by the file and the command alone.
use Rattle.std.specs.Prelude.{ℕ, Bool, true, List, None, String, if◌then◌else◌}
use Rattle.std.specs.declared.alloc.Global.{Global}
use Rattle.point_order.specs.Complex.{complex}
use Rattle.edit_files.specs.Content.{Content}
use Rattle.edit_files.specs.Writing.{file_text}
use Rattle.mesh_files.specs.Summary.{summary_text}
use Rattle.mesh_files.specs.Text.{ReportParts, report_text}
use Rattle.plain_laws.specs.Plain.{plain_replies, plain_set, all_edits}
use Rattle.command_ends.specs.Drawn.{drawn_file}
use Rattle.command_pages.specs.Report.{shapes_of}
use Rattle.command_words.specs.Words.{asks_text}

-- the points that a file leaves, as its lines tell them
abbrev pub plain_points : Content → List ℕ
plain_points file = plain_set (all_edits file.points file.edits)

-- the report that a file's lines tell by themselves, with a shape for each of its radii or none, and without an order
-- block
abbrev pub plain_report : Bool → Content → ReportParts
plain_report shape file =
    record {
      replies = plain_replies (all_edits file.points file.edits);
      points = plain_points file;
      cells = complex (plain_points file);
      shapes = shapes_of shape file.version file.radii (plain_points file);
      order = None;
    }

-- its text
abbrev pub plain_text : Bool → Content → List ℕ
plain_text shape file = report_text (plain_report shape file)

-- what is written of the file that the words draw: its text where that is asked for, and else the summary that its
-- lines tell
abbrev pub plain_drawn : List (String Global) → List ℕ
plain_drawn words = if asks_text words then file_text (drawn_file words)
    else summary_text (plain_report true (drawn_file words))
