-- The command `steps`: the text of the least alphas that is made of a file.
use Rattle.std.specs.Prelude.{◌≡◌, ℕ, List}
use Rattle.edit_history.specs.Histories.{replay}
use Rattle.alpha_steps.specs.Text.{steps_text}
use Rattle.alpha_steps.specs.Thresholds.{AreThresholds, StepSlots}
use Rattle.command_pages.specs.Command.{Command}
use Rattle.command_pages.specs.Files.{of_file}

-- The text is that of the thresholds of the complex of a set.
pub record IsStepped (s : List ℕ) (text : List ℕ) : Type 0 where
  pub list : StepSlots
  pub thresholds : AreThresholds s list
  pub text_is : text ≡ steps_text list

-- the command
abbrev pub stepping : Command
stepping = of_file (λ words h text file. IsStepped (replay h) text)
