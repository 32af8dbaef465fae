-- What is made of a file that is read, as functions and lemmas speak of it.
use Rattle.std.specs.Prelude.{◌≡◌, ◌⊎◌, ℕ, List, Bool, true, false}
use Rattle.point_order.specs.Solid.{is_solid}
use Rattle.edit_history.specs.declared.history.Entry.{Entry}
use Rattle.edit_history.specs.Histories.{IsLegal, replay}
use Rattle.edit_files.specs.Content.{Content}
use Rattle.mesh_files.specs.Text.{ReportParts}
use Rattle.command_words.specs.declared.stop.Stop.{Stop}
use Rattle.command_words.specs.declared.stop.Stop.TheVariants.{Memory, Flat}
use Rattle.command_pages.specs.Files.{IsOfFile}
use Rattle.command_pages.specs.Report.{report_of, text_of_history}
use Rattle.command_pages.specs.Run.{IsKept}
use Rattle.command_ends.specs.Queried.{IsQueried}
use Rattle.command_ends.specs.Stepped.{IsStepped}

-- why nothing is made: want of memory, or points in one plane
abbrev pub IsUnmeshed : Content → Stop → Type 0
IsUnmeshed file stop = (stop ≡ Memory) ⊎ ((stop ≡ Flat) × (is_solid file.points ≡ false))

-- ---- reports

-- The file's points are solid; the history keeps it for a number of workers, and the report is that of the two.
pub record IsMeshed (workers : ℕ) (shape order : Bool) (file : Content) (h : List Entry)
    (report : ReportParts) : Type 0 where
  pub solid : is_solid file.points ≡ true
  pub kept : IsKept file workers h
  pub legal : IsLegal h
  pub report_is : report ≡ report_of shape order file h

-- the bytes are a solid file, which the history keeps, and the report is that of the two
abbrev pub IsReportOf : ℕ → Bool → Bool → List Entry → ReportParts → List ℕ → Type 0
IsReportOf workers shape order h report bytes = IsOfFile workers h (λ file. report ≡ report_of shape order file h) bytes

-- and so is the text
abbrev pub IsReported : ℕ → Bool → Bool → List Entry → List ℕ → List ℕ → Type 0
IsReported workers shape order h text bytes = IsOfFile workers h (λ file. text
    ≡ text_of_history shape order file h) bytes

-- ---- least alphas

-- the bytes are a solid file, which the history keeps, and the text is that of the points that the history leaves
abbrev pub IsSteppedFile : ℕ → List Entry → List ℕ → List ℕ → Type 0
IsSteppedFile workers h text bytes = IsOfFile workers h (λ file. IsStepped (replay h) text) bytes

-- ---- queries

-- The file's points are solid; the history keeps it for a number of workers, and the text is that of the points that
-- the history leaves.
pub record IsAnswered (workers : ℕ) (file : Content) (h : List Entry) (text : List ℕ) : Type 0 where
  pub solid : is_solid file.points ≡ true
  pub kept : IsKept file workers h
  pub legal : IsLegal h
  pub told : IsQueried (replay h) file.queries text

-- the bytes are a solid file, which the history keeps, and the text is that of the points that the history leaves
abbrev pub IsQueriedFile : ℕ → List Entry → List ℕ → List ℕ → Type 0
IsQueriedFile workers h text bytes = IsOfFile workers h (λ file. IsQueried (replay h) file.queries text) bytes
