-- The command `gen`: what is written of a file that is drawn.
use Rattle.std.specs.Prelude.{◌≡◌, ℕ, Bool, true, false, List, [], String, if◌then◌else◌}
use Rattle.std.specs.declared.alloc.Global.{Global}
use Rattle.edit_history.specs.declared.history.Entry.{Entry}
use Rattle.edit_files.specs.Content.{Content}
use Rattle.edit_files.specs.Generator.{generated}
use Rattle.edit_files.specs.Writing.{file_text}
use Rattle.mesh_files.specs.Summary.{summary_text}
use Rattle.command_pages.specs.Command.{Command}
use Rattle.command_pages.specs.Report.{report_of}
use Rattle.command_pages.specs.Run.{IsKept, input_limit}
use Rattle.command_words.specs.Words.{asks_text, drawn_count, drawn_start, worker_count}

-- the summary of a history of a file's lines, with a shape for each of its radii
abbrev pub summary_of : Content → List Entry → List ℕ
summary_of file h = summary_text (report_of true false file h)

-- what is written of a drawn file: its text where that is asked for, and else the summary of what a history of its
-- lines leaves
abbrev pub text_of_drawn : Bool → Content → List Entry → List ℕ
text_of_drawn text file h = if text then file_text file else summary_of file h

-- what is kept of it for a number of workers: no history where its text is asked for, and else one that keeps it
abbrev pub IsKeptOfDrawn : Bool → Content → ℕ → List Entry → Type 0
IsKeptOfDrawn true file workers h = h ≡ []
IsKeptOfDrawn false file workers h = IsKept file workers h

-- the file that the words ask for
abbrev pub drawn_file : List (String Global) → Content
drawn_file words = generated (drawn_count words) (drawn_start words)

-- what is written of it
abbrev pub drawn_text : List (String Global) → List Entry → List ℕ
drawn_text words h = text_of_drawn (asks_text words) (drawn_file words) h

-- what is made of a drawn file: the history and the text
abbrev pub IsDrawn : Bool → ℕ → Content → List Entry → List ℕ → Type 0
IsDrawn text workers file h written = IsKeptOfDrawn text file workers h × (written ≡ text_of_drawn text file h)

-- The command. It reads nothing, so nothing of that is at fault, and nothing but want of memory stops it.
abbrev pub drawing : Command
drawing =
    record {
      limit = input_limit;
      is_fault = λ bytes fault. ⊥;
      makes = λ words left late h text. (late ≡ 0)
          × IsDrawn (asks_text words) (worker_count words) (drawn_file words) h text;
      makes_none = λ left failed stop. ⊥;
    }
