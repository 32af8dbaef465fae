-- The commands, by what they do.
use Rattle.std.specs.Prelude.{List, String}
use Rattle.std.specs.declared.alloc.Global.{Global}
use Rattle.command_words.specs.Words.{Checks, Draws, Kind, Parts, Queries, Reports, Steps, kind_of_words}
use Rattle.command_pages.specs.Checked.{checking}
use Rattle.command_pages.specs.Command.{Command}
use Rattle.command_ends.specs.Drawn.{drawing}
use Rattle.command_ends.specs.Parted.{parting}
use Rattle.command_ends.specs.Queried.{querying}
use Rattle.command_ends.specs.Reported.{reporting}
use Rattle.command_ends.specs.Stepped.{stepping}

-- what a command of a kind reads and makes, and why it makes nothing
abbrev pub command_of : Kind → Command
command_of Reports = reporting
command_of Steps = stepping
command_of Parts = parting
command_of Queries = querying
command_of Checks = checking
command_of Draws = drawing

-- the command of the words
abbrev pub command_of_words : List (String Global) → Command
command_of_words words = command_of (kind_of_words words)
