-- Why a run stops: the line of each stop, and the status of an end.
use Rattle.std.specs.Prelude.{◌≡◌, ◌⊎◌, ℕ, List, [], Option, None, Some, Result, Ok, Err, String, ⊤}
use Rattle.std.specs.declared.alloc.Global.{Global}
use Rattle.byte_ends.specs.declared.loops.ReadError.{ReadError}
use Rattle.byte_ends.specs.declared.loops.ReadError.TheVariants.{Fault as SourceFault, Memory as NoRoom}
use Rattle.command_words.specs.declared.stop.Stop.{Stop}
use Rattle.command_words.specs.declared.stop.Stop.TheVariants.{Memory, Usage, ReadFault, BadLine, NoPart, NoAlpha}
use Rattle.command_words.specs.declared.stop.Stop.TheVariants.{BadMesh}
use Rattle.command_words.specs.Lines.{plain_line, status_of}
use Rattle.command_words.specs.Words.{AreWordsTaken}

-- the line of a fault if there is one, and else that of the status
abbrev pub line_of_stop : Stop → List ℕ
line_of_stop (BadLine line) = line.items
line_of_stop stop = plain_line (status_of stop)

-- the status of an end, 0 where nothing stopped the run, and its line
abbrev pub status_of_end : Option Stop → ℕ
status_of_end None = 0
status_of_end (Some stop) = status_of stop

abbrev pub line_of_end : Option Stop → List ℕ
line_of_end None = []
line_of_end (Some stop) = line_of_stop stop

-- what a command may tell of what it made: the run ends so where the text is written whole
abbrev pub IsLate : Option Stop → Type 0
IsLate None = ⊤
IsLate (Some NoPart) = ⊤
IsLate (Some NoAlpha) = ⊤
IsLate (Some BadMesh) = ⊤
IsLate (Some stop) = ⊥

-- the status where a command has made something or has stopped
abbrev pub status_of_made : {A : Type 0} → Result A Stop → ℕ
status_of_made (Ok made) = 0
status_of_made (Err stop) = status_of stop

-- why a reading stopped
abbrev pub stop_of_read : ReadError → Stop
stop_of_read SourceFault = ReadFault
stop_of_read NoRoom = Memory

-- why words are not read
abbrev pub AreRefused : List (String Global) → Stop → Type 0
AreRefused words stop = (stop ≡ Memory) ⊎ ((stop ≡ Usage) × (AreWordsTaken words → ⊥))
