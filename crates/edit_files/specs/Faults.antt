-- The one fault of a text that is of no file.
use Rattle.std.specs.Prelude.{◌≡◌, ◌≢◌, ℕ, Bool, List, ◌<◌, ◌||◌, ◌&&◌, ⊤, codes, IsTrue}
use Rattle.std.specs.Str.{bytes_eq}
use Rattle.text_readings.specs.declared.fault.Why.{Why}
use Rattle.text_readings.specs.declared.fault.Why.TheVariants.{Section, Field, Range, TooMany}
use Rattle.text_readings.specs.declared.fault.Fault.{Fault}
use Rattle.text_readings.specs.Readings.{lines_of, IsFaultOf, Reading}
use Rattle.edit_files.specs.declared.place.Due.{Due}
use Rattle.edit_files.specs.declared.place.Due.TheVariants.{Title, Heading, Body, Nothing}
use Rattle.edit_files.specs.declared.version.Version.{Version}
use Rattle.edit_files.specs.Content.{Content, row}
use Rattle.edit_files.specs.Grammar.{HasFormOf, IsTaken, IsWithinNewest, LeadsOn, Limits, Reached, at_title, lines_in}
use Rattle.edit_files.specs.Grammar.{most_of, word_behind}

-- the line is one of the section words of a version
abbrev pub is_word : Version → List ℕ → Bool
is_word version line =
    bytes_eq line (codes "points") || bytes_eq line (codes "edits") || bytes_eq line (codes "radii")
    || bytes_eq line (codes "end") || ((row version).queries && bytes_eq line (codes "queries"))

-- Why a line is wrong where this is due. Section: another word is due, or no line at all; in a list, it is a word, but
-- not the one behind it. Else it is for the list. TooMany: that has as many lines as there may be. Field: it has room,
-- and the line is not of its form. Range: the line is of its form, and yet is not taken.
abbrev pub IsReason : Limits → Due → Content → List ℕ → Why → Type 0
IsReason limits Title f line Section = (v : Version) → line ≡ (row v).title → ¬ (IsWithinNewest limits v)
IsReason limits Heading f line Section = line ≢ codes "points"
IsReason limits (Body p) f line Section = IsTrue (is_word f.version line) × (line ≢ word_behind f.version p)
IsReason limits (Body p) f line TooMany =
    ¬ (IsTrue (is_word f.version line)) × ¬ (lines_in p f < most_of limits p)
IsReason limits (Body p) f line Field =
    ¬ (IsTrue (is_word f.version line)) × (lines_in p f < most_of limits p) × ¬ (HasFormOf f.version p line)
IsReason limits (Body p) f line Range =
    ¬ (IsTrue (is_word f.version line)) × (lines_in p f < most_of limits p) × HasFormOf f.version p line
    × ((g : Content) → ¬ (IsTaken p f line g))
IsReason limits Nothing f line Section = ⊤
IsReason limits _ f line _ = ⊥

-- how a file is read, up to where nothing is due
abbrev pub file_reading : Limits → Reading Reached
file_reading limits =
    record {
      Leads = LeadsOn limits;
      IsReason = λ a line why. IsReason limits a.due a.taken line why;
      IsEnd = λ a. a.due ≡ Nothing;
    }

-- the text is of no file, and this is its fault
abbrev pub IsFault : Limits → List ℕ → Fault → Type 0
IsFault limits bytes fault = IsFaultOf (file_reading limits) at_title (lines_of bytes) fault
