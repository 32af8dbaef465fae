-- The command line, as `clap` reads it.
use Rattle.std.specs.Prelude.{◌≡◌, ◌≢◌, ℕ, List, [], ◌∷◌, ◌++◌, Bool, true, false, pos, Option, None, Some, codes, map}
use Rattle.std.specs.Prelude.{decimal, string_bytes, String, if◌then◌else◌}
use Rattle.std.specs.Option.{option_map, option_map_or}
use Rattle.std.specs.Str.{bytes_eq}
use Rattle.std.specs.Str.Parse.{digits_value, without_leading_plus}
use Rattle.std.specs.declared.alloc.Global.{Global}
use Rattle.clap.specs.Words.{App, Row, Rule, Text, fault_of, first_of, new_app, new_rule, subcommand_of, with_rule}
use Rattle.clap.specs.Words.{with_subcommand}
use Rattle.clap.specs.Simple.{on_top}
use Rattle.clap.specs.ValueTests.{is_unsigned_in}
use Rattle.clap.specs.declared.builder.action.ArgAction.TheVariants.{SetTrue}
use Rattle.clap.specs.declared.builder.value_parser.ValueParser.{ValueParser}
use Rattle.clap.specs.declared.builder.value_parser.ValueParser.TheVariants.{Signed, Unsigned}
use Rattle.bucket_grid.specs.Grids.{is_grid_size}
use Rattle.edit_files.specs.Generator.{most_edits}

-- the most workers that there may be, and the greatest size of a grid
abbrev pub most_workers : ℕ
most_workers = 64

abbrev pub most_grid : ℕ
most_grid = 16

-- the most that `--start` takes; that `--alpha` takes, one less than 2^34; and that `--most` and `--off` take
abbrev pub most_start : ℕ
most_start = 2147483647

abbrev pub most_alpha : ℕ
most_alpha = 17179869183

abbrev pub most_index : ℕ
most_index = 16777216

-- an option of this name: what numbers it takes, what it is where it is left out, and whether it is required
abbrev pub option_of : Text → ValueParser → List Text → Bool → Rule
option_of name parser defaults required =
    record (new_rule name) { long = Some name; defaults = defaults; required = required; parser = Some parser }

-- numbers from the least to the most
abbrev pub from_to : ℕ → ℕ → ValueParser
from_to least most = Signed (pos least) (pos most)

-- the options, each by its name
abbrev pub workers_option : Rule
workers_option = option_of (codes "workers") (from_to 1 most_workers) (codes "1" ∷ []) false

abbrev pub grid_option : Rule
grid_option = option_of (codes "grid") (from_to 1 most_grid) (codes "4" ∷ []) false

abbrev pub count_option : Rule
count_option = option_of (codes "count") (from_to 0 most_edits) [] true

abbrev pub start_option : Rule
start_option = option_of (codes "start") (from_to 0 most_start) [] true

abbrev pub alpha_option : Rule
alpha_option = option_of (codes "alpha") (Unsigned 0 most_alpha) (codes "0" ∷ []) false

abbrev pub most_option : Rule
most_option = option_of (codes "most") (from_to 0 most_index) (codes "0" ∷ []) false

abbrev pub index_option : Rule
index_option = option_of (codes "off") (from_to 0 most_index) [] false

-- a flag of this name
abbrev pub flag_of : Text → Rule
flag_of name = record (new_rule name) { long = Some name; action = Some SetTrue }

-- a command of this name that makes a mesh: it takes `--workers` and `--grid`
abbrev pub meshing_command : Text → App
meshing_command name = with_rule (with_rule (new_app name) workers_option) grid_option

-- a command of this name that writes a report: it takes the flag `--order` besides
abbrev pub command_of : Text → App
command_of name = with_rule (meshing_command name) (flag_of (codes "order"))

-- the commands `gen` and `parts`
abbrev pub gen_command : App
gen_command =
    with_rule (with_rule (with_rule (meshing_command (codes "gen")) count_option) start_option) (flag_of (codes "text"))

abbrev pub parts_command : App
parts_command =
    with_rule (with_rule (with_rule (meshing_command (codes "parts")) alpha_option) most_option) index_option

-- a command line with more commands
abbrev pub with_commands : App → List App → App
with_commands line [] = line
with_commands line (command ∷ commands) = with_commands (with_subcommand line command.top) commands

-- the program: it takes the word of a command, and has the seven; `check` takes no option
abbrev pub program : App
program =
    with_commands (on_top (λ top. record top { subcommand_required = true }) (new_app (codes "delaunay")))
    (command_of (codes "mesh") ∷ command_of (codes "shape") ∷ gen_command ∷ meshing_command (codes "steps")
    ∷ parts_command ∷ meshing_command (codes "near") ∷ new_app (codes "check") ∷ [])

-- the words of a command line as texts
abbrev pub texts_of : List (String Global) → List Text
texts_of words = map string_bytes words

-- the words are the program's name, whatever it is, and these
abbrev pub Say : List Text → List (String Global) → Type 0
Say rest words = (name : Text) × (texts_of words ≡ name ∷ rest)

-- the words of a command with workers and a grid, and those of `gen` with a count, a start and these
abbrev pub meshing_line : Text → ℕ → ℕ → List Text
meshing_line command workers grid =
    command ∷ (codes "--workers=" ++ decimal workers) ∷ (codes "--grid=" ++ decimal grid) ∷ []

abbrev pub gen_line : ℕ → ℕ → List Text → List Text
gen_line count start rest =
    codes "gen" ∷ (codes "--count=" ++ decimal count) ∷ (codes "--start=" ++ decimal start) ∷ rest

-- the words of `parts` with an alpha, a most of parts and the index of one
abbrev pub parts_line : ℕ → ℕ → ℕ → List Text
parts_line alpha most index =
    codes "parts" ∷ (codes "--alpha=" ++ decimal alpha) ∷ (codes "--most=" ++ decimal most)
    ∷ (codes "--off=" ++ decimal index) ∷ []

-- a flag was given, by the matches of the command
abbrev pub flag_in : Text → List Row → Bool
flag_in flag rows = option_map_or (λ text. bytes_eq text (codes "true")) (first_of flag rows) false

-- a flag was given, by the name and the matches of the command that was met
abbrev pub has_flag : Text → Option (Text × List Row) → Bool
has_flag flag met = option_map_or (λ found. flag_in flag found.1) met false

-- the words ask for the order block
unfoldable pub asks_order : List (String Global) → Bool
asks_order words = has_flag (codes "order") (subcommand_of program (texts_of words))

-- the command that was met has this name
abbrev pub is_command : Text → Option (Text × List Row) → Bool
is_command name met = option_map_or (λ found. bytes_eq found.0 name) met false

-- the words ask for the shapes
unfoldable pub asks_shape : List (String Global) → Bool
asks_shape words = is_command (codes "shape") (subcommand_of program (texts_of words))

-- the words ask for the text of a file that is drawn
unfoldable pub asks_text : List (String Global) → Bool
asks_text words = has_flag (codes "text") (subcommand_of program (texts_of words))

-- the number that a text names, where `clap` takes it for one from the least to the most, and else the least; a minus
-- may stand before a 0 alone
abbrev pub number_between : ℕ → ℕ → Text → ℕ
number_between least most text = if is_unsigned_in least most text then digits_value 10
    (without_leading_plus text) else least

-- the number of an option, by the matches of the command
abbrev pub number_in : Text → ℕ → ℕ → List Row → ℕ
number_in option least most rows = option_map_or (number_between least most) (first_of option rows) least

-- the number of an option, by the name and the matches of the command that was met
abbrev pub number_of : Text → ℕ → ℕ → Option (Text × List Row) → ℕ
number_of option least most met = option_map_or (λ found. number_in option least most found.1) met least

-- the number that was given to an option, if one was, by the matches of the command
abbrev pub given_in : Text → ℕ → List Row → Option ℕ
given_in option most rows = option_map (number_between 0 most) (first_of option rows)

-- and by the name and the matches of the command that was met
abbrev pub given_of : Text → ℕ → Option (Text × List Row) → Option ℕ
given_of option most met = option_map_or (λ found. given_in option most found.1) met None

-- the alpha that the words ask for, the most parts, and the index of a part, if one
unfoldable pub asked_alpha : List (String Global) → ℕ
asked_alpha words = number_of (codes "alpha") 0 most_alpha (subcommand_of program (texts_of words))

unfoldable pub asked_most : List (String Global) → ℕ
asked_most words = number_of (codes "most") 0 most_index (subcommand_of program (texts_of words))

unfoldable pub asked_index : List (String Global) → Option ℕ
asked_index words = given_of (codes "off") most_index (subcommand_of program (texts_of words))

-- how many edits the words ask for, and the start of the draws
unfoldable pub drawn_count : List (String Global) → ℕ
drawn_count words = number_of (codes "count") 0 most_edits (subcommand_of program (texts_of words))

unfoldable pub drawn_start : List (String Global) → ℕ
drawn_start words = number_of (codes "start") 0 most_start (subcommand_of program (texts_of words))

-- how many workers the words ask for, and the size of the grid
unfoldable pub worker_count : List (String Global) → ℕ
worker_count words = number_of (codes "workers") 1 most_workers (subcommand_of program (texts_of words))

unfoldable pub grid_size : List (String Global) → ℕ
grid_size words = number_of (codes "grid") 1 most_grid (subcommand_of program (texts_of words))

-- the program takes the words: as `clap` reads them, nothing is at fault, and there is a grid of the size
unfoldable pub AreWordsTaken : List (String Global) → Type 0
AreWordsTaken words = (fault_of program (texts_of words) ≡ []) × (is_grid_size (grid_size words) ≡ true)

-- what a command does: it writes the report of a file that it reads (`mesh` and `shape`), its least alphas (`steps`),
-- its solid parts (`parts`) or the answers to its queries (`near`), it judges a mesh that it reads (`check`), or it
-- draws a file (`gen`)
pub data Kind : Type 0 where
  Reports : Kind
  Steps : Kind
  Parts : Kind
  Queries : Kind
  Checks : Kind
  Draws : Kind

-- what the command of this name does
abbrev pub kind_named : Text → Kind
kind_named name =
    if bytes_eq name (codes "gen") then Draws
    else (if bytes_eq name (codes "check") then Checks
    else (if bytes_eq name (codes "steps") then Steps
    else (if bytes_eq name (codes "parts") then Parts
    else (if bytes_eq name (codes "near") then Queries else Reports))))

-- what the command that was met does
abbrev pub kind_met : Option (Text × List Row) → Kind
kind_met met = option_map_or (λ found. kind_named found.0) met Reports

-- what the command of the words does
unfoldable pub kind_of_words : List (String Global) → Kind
kind_of_words words = kind_met (subcommand_of program (texts_of words))

-- the command of the words is of this kind
abbrev pub Asks : Kind → List (String Global) → Type 0
Asks kind words = kind_of_words words ≡ kind

-- the source is read
abbrev pub ReadsSource : List (String Global) → Type 0
ReadsSource words = kind_of_words words ≢ Draws

-- an edit file is read
abbrev pub ReadsFile : List (String Global) → Type 0
ReadsFile words = ReadsSource words × (kind_of_words words ≢ Checks)
