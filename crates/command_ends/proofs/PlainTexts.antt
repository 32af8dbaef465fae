-- The text of an anchored file.
use Rattle.std.proofs.Common.{◌≡◌, refl, ap, ℕ, Bool, true, false, cond, List}
use Rattle.std.specs.Prelude.{None, String}
use Rattle.std.specs.declared.alloc.Global.{Global}
use Rattle.point_order.specs.Complex.{complex}
use Rattle.edit_history.specs.declared.history.Entry.{Entry}
use Rattle.edit_history.specs.Histories.{IsLegal}
use Rattle.edit_history.specs.OneThread.{Keeps}
use Rattle.edit_files.specs.Content.{Content}
use Rattle.edit_files.proofs.Cited.{generated_anchored}
use Rattle.edit_files.specs.Writing.{file_text}
use Rattle.mesh_files.specs.Summary.{summary_text}
use Rattle.plain_laws.specs.Plain.{IsAnchored}
use Rattle.plain_laws.specs.Laws.{IsPlain}
use Rattle.plain_laws.proofs.Cited.{anchored_is_plain}
use Rattle.command_ends.specs.Drawn.{IsKeptOfDrawn, drawn_file, drawn_text}
use Rattle.command_ends.specs.PlainText.{plain_drawn, plain_report}
use Rattle.command_pages.specs.Report.{report_of, shapes_of}
use Rattle.command_words.specs.Words.{asks_text, drawn_count, drawn_start}

-- the report of a plain history is that of the lines
report_is : (shape : Bool) (file : Content) (h : List Entry) → IsPlain file.points file.edits h →
    report_of shape false file h ≡ plain_report shape file
report_is shape file h p =
    λ i. record {
      replies = p.replies i;
      points = p.set i;
      cells = complex (p.set i);
      shapes =
          shapes_of shape file.version file.radii (p.set i);
      order = None;
    }

-- every legal history that keeps an anchored file has the report of its lines
pub kept_is_plain : (shape : Bool) (file : Content) (workers : ℕ) (h : List Entry) → IsAnchored file.points file.edits →
    Keeps file.points file.edits workers h → IsLegal h →
    report_of shape false file h ≡ plain_report shape file
kept_is_plain shape file workers h anchored keeps legal =
    report_is shape file h (anchored_is_plain file.points file.edits workers h anchored keeps legal)

-- what is written of a drawn file
pub drawn_is_plain : (words : List (String Global)) (workers : ℕ) (kept : List Entry) → IsLegal kept →
    IsKeptOfDrawn (asks_text words) (drawn_file words) workers kept → drawn_text words kept ≡ plain_drawn words
drawn_is_plain words workers kept legal e = by (asks_text words) e
  where
    by : (text : Bool) → IsKeptOfDrawn text (drawn_file words) workers kept →
        cond text (file_text (drawn_file words)) (summary_text (report_of true false (drawn_file words) kept)) ≡ cond
        text (file_text (drawn_file words)) (summary_text (plain_report true (drawn_file words)))
    by true k = refl
    by false k = ap summary_text (kept_is_plain true (drawn_file words) workers kept (generated_anchored
        (drawn_count words) (drawn_start words)) k.keeps legal)
