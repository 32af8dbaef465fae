-- The commands `mesh` and `shape`: the text of the report that is made of a file.
use Rattle.std.specs.Prelude.{◌≡◌}
use Rattle.command_words.specs.Words.{asks_order, asks_shape}
use Rattle.command_pages.specs.Command.{Command}
use Rattle.command_pages.specs.Files.{of_file}
use Rattle.command_pages.specs.Report.{text_of_history}

-- the commands
abbrev pub reporting : Command
reporting = of_file (λ words h text file. text ≡ text_of_history (asks_shape words) (asks_order words) file h)
