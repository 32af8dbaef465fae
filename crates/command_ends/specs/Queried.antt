-- The command `near`: the answers to the queries of a file, and their text.
use Rattle.std.specs.Prelude.{◌≡◌, ℕ, List}
use Rattle.edit_history.specs.Histories.{replay}
use Rattle.nearest_points.specs.declared.answers.Near.{Near}
use Rattle.nearest_points.specs.Points.{AreNear}
use Rattle.near_texts.specs.Text.{near_text}
use Rattle.command_pages.specs.Command.{Command}
use Rattle.command_pages.specs.Files.{of_file}

-- The text is that of the answers to the queries, in their order: of each the nearest point of a set, and the square of
-- its distance.
pub record IsQueried (s queries text : List ℕ) : Type 0 where
  pub nears : List Near
  pub are_near : AreNear s queries nears
  pub text_is : text ≡ near_text s nears

-- the command
abbrev pub querying : Command
querying = of_file (λ words h text file. IsQueried (replay h) file.queries text)
