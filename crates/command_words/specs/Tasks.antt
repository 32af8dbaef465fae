-- What the words of a run ask for, as it is read.
use Rattle.std.specs.Prelude.{◌≡◌, List, codes, String, Option}
use Rattle.std.specs.declared.alloc.Global.{Global}
use Rattle.clap.specs.Words.{Row, Text, subcommand_of}
use Rattle.edit_files.specs.Generator.{most_edits}
use Rattle.command_words.specs.declared.task.Making.{Making}
use Rattle.command_words.specs.declared.task.Task.{Task}
use Rattle.command_words.specs.declared.task.Task.TheVariants.{Report, Step, Part, Query, Check, Draw}
use Rattle.command_words.specs.Words.{Checks, Draws, Parts, Queries, Reports, Steps, given_of, has_flag, is_command}
use Rattle.command_words.specs.Words.{kind_met, most_alpha, most_grid, most_index, most_start, most_workers, number_of}
use Rattle.command_words.specs.Words.{program, texts_of}

-- the workers and the grid of the command that was met, by its matches
pub record IsMakingOf (met : Option (Text × List Row)) (making : Making) : Type 0 where
  pub workers : making.workers ≡ number_of (codes "workers") 1 most_workers met
  pub grid : making.grid ≡ number_of (codes "grid") 1 most_grid met

-- the task of the command that was met, by what it does and its matches
abbrev pub IsTaskOf : Option (Text × List Row) → Task → Type 0
IsTaskOf met (Report making asked) =
    IsMakingOf met making × (kind_met met ≡ Reports)
    × (asked.shape ≡ is_command (codes "shape") met) × (asked.order ≡ has_flag (codes "order") met)
IsTaskOf met (Step making) = IsMakingOf met making × (kind_met met ≡ Steps)
IsTaskOf met (Part making wanted) =
    IsMakingOf met making × (kind_met met ≡ Parts) × (wanted.alpha ≡ number_of (codes "alpha") 0 most_alpha met)
    × (wanted.most ≡ number_of (codes "most") 0 most_index met) × (wanted.off ≡ given_of (codes "off") most_index met)
IsTaskOf met (Query making) = IsMakingOf met making × (kind_met met ≡ Queries)
IsTaskOf met Check = kind_met met ≡ Checks
IsTaskOf met (Draw making drawn) =
    IsMakingOf met making × (kind_met met ≡ Draws) × (drawn.count ≡ number_of (codes "count") 0 most_edits met)
    × (drawn.start ≡ number_of (codes "start") 0 most_start met) × (drawn.text ≡ has_flag (codes "text") met)

-- the task that the words ask for
abbrev pub IsTask : List (String Global) → Task → Type 0
IsTask words task = IsTaskOf (subcommand_of program (texts_of words)) task
