-- What `clap` makes of the program's words.
use Rattle.std.proofs.Common.{◌≡◌, ◌≢◌, ◌⊎◌, inl, inr, refl, sym, ap, ◌∙◌, subst, ℕ, ◌<◌, ◌≤◌, ◌^◌, arith, List, []}
use Rattle.std.proofs.Common.{◌∷◌, Bool, true, false, cond, codes}
use Rattle.std.specs.Prelude.{String, Option, Some, None}
use Rattle.std.specs.declared.alloc.Global.{Global}
use Rattle.std.specs.Option.{option_map, option_map_or}
use Rattle.std.specs.Str.{bytes_eq}
use Rattle.std.specs.Str.Parse.{IsNumeral, digits_value, without_leading_plus}
use Rattle.clap.specs.ValueTests.{is_unsigned_in}
use Rattle.clap.proofs.ValueTestLemmas.{accepts-Accepts, Accepts-accepts}
use Rattle.clap.specs.declared.builder.value_parser.ValueParser.TheVariants.{Unsigned}
use Rattle.clap.specs.declared.parser.matches.Found.{Found}
use Rattle.clap.proofs.WalkLemmas.{first_value-rows}
use Rattle.clap.specs.Words.{App, Text, Row, IsAmong, Kinds, fault_of, first_value, rows_of, is_simple}
use Rattle.clap.specs.Words.{is_simple_and_free, subcommand_of}
use Rattle.clap.specs.declared.error.kind.ErrorKind.{ErrorKind}
use Rattle.clap.specs.declared.error.kind.ErrorKind.TheVariants.{OutOfMemory}
use Rattle.clap.proofs.OnLiterals.{clap_on_literals}
use Rattle.bucket_grid.specs.Grids.{is_grid_size}
use Rattle.command_words.specs.Words.{Checks, Kind, Parts, Queries, Reports, Steps, asked_alpha, asked_index}
use Rattle.command_words.specs.Words.{asked_most, asks_order, asks_shape, asks_text, drawn_count, drawn_start, flag_in}
use Rattle.command_words.specs.Words.{given_in, given_of, grid_size, has_flag, is_command, kind_met, kind_of_words}
use Rattle.command_words.specs.Words.{most_alpha, most_grid, most_index, most_workers, number_between, number_in}
use Rattle.command_words.specs.Words.{number_of, program, worker_count, texts_of, AreWordsTaken, Asks, Draws, Say}
use Rattle.command_words.specs.Tasks.{IsTask, IsTaskOf}
use Rattle.command_words.specs.declared.task.Asked.{Asked}
use Rattle.command_words.specs.declared.task.Drawn.{Drawn}
use Rattle.command_words.specs.declared.task.Making.{Making}
use Rattle.command_words.specs.declared.task.Task.{Task}
use Rattle.command_words.specs.declared.task.Task.TheVariants.{Report, Step, Part, Query, Check, Draw}
use Rattle.command_words.specs.declared.task.Wanted.{Wanted}

-- the program's command line is of the kind of which `clap` tells all faults
program_is_simple_and_free : is_simple_and_free program ≡ true
unfolding clap_on_literals
program_is_simple_and_free = refl

-- and of the kind of which it tells what is met
program_is_simple : is_simple program ≡ true
unfolding clap_on_literals
program_is_simple = refl

-- what words are found to be: with no fault, `shape` or not, with `--order` or not, one worker, a grid of 4, and a
-- command of this kind
abbrev AreFound : List Text → Bool → Bool → Kind → Type 0
AreFound words shape order kind =
    (fault_of program words ≡ []) × (is_command (codes "shape") (subcommand_of program words) ≡ shape) ×
    (has_flag (codes "order") (subcommand_of program words) ≡ order)
    × (number_of (codes "workers") 1 most_workers (subcommand_of program words) ≡ 1) ×
    (number_of (codes "grid") 1 most_grid (subcommand_of program words) ≡ 4)
    × (kind_met (subcommand_of program words) ≡ kind)

-- the word `mesh` alone
mesh_found : (name : Text) → AreFound (name ∷ codes "mesh" ∷ []) false false Reports
unfolding clap_on_literals
mesh_found name = (refl, refl, refl, refl, refl, refl)

-- `mesh --order`
mesh_order_found : (name : Text) → AreFound (name ∷ codes "mesh" ∷ codes "--order" ∷ []) false true Reports
unfolding clap_on_literals
mesh_order_found name = (refl, refl, refl, refl, refl, refl)

-- `shape`
shape_found : (name : Text) → AreFound (name ∷ codes "shape" ∷ []) true false Reports
unfolding clap_on_literals
shape_found name = (refl, refl, refl, refl, refl, refl)

-- `shape --order`
shape_order_found : (name : Text) → AreFound (name ∷ codes "shape" ∷ codes "--order" ∷ []) true true Reports
unfolding clap_on_literals
shape_order_found name = (refl, refl, refl, refl, refl, refl)

-- `steps`
steps_found : (name : Text) → AreFound (name ∷ codes "steps" ∷ []) false false Steps
unfolding clap_on_literals
steps_found name = (refl, refl, refl, refl, refl, refl)

-- `parts`
parts_found : (name : Text) → AreFound (name ∷ codes "parts" ∷ []) false false Parts
unfolding clap_on_literals
parts_found name = (refl, refl, refl, refl, refl, refl)

-- `near`
near_found : (name : Text) → AreFound (name ∷ codes "near" ∷ []) false false Queries
unfolding clap_on_literals
near_found name = (refl, refl, refl, refl, refl, refl)

-- the defaults of the options of `parts`
abbrev HasDefaults : List Text → Type 0
HasDefaults words =
    (number_of (codes "alpha") 0 most_alpha (subcommand_of program words) ≡ 0) ×
    (number_of (codes "most") 0 most_index (subcommand_of program words) ≡ 0)
    × (given_of (codes "off") most_index (subcommand_of program words) ≡ None)

-- the word `parts` alone has them
parts_defaults : (name : Text) → HasDefaults (name ∷ codes "parts" ∷ [])
unfolding clap_on_literals
parts_defaults name = (refl, refl, refl)

-- so they are taken, ask for these and for the defaults, and their command is of the kind
abbrev AreAsked : List (String Global) → Bool → Bool → Kind → Type 0
AreAsked words shape order kind =
    (AreWordsTaken words × (asks_shape words ≡ shape) × (asks_order words ≡ order)) ×
    ((worker_count words ≡ 1) × (grid_size words ≡ 4)) × (kind_of_words words ≡ kind)

-- words that are found to be these are taken and ask for these
asked : (words : List (String Global)) (texts : List Text) (shape order : Bool) (kind : Kind) →
    texts_of words ≡ texts → AreFound texts shape order kind → AreAsked words shape order kind
unfolding AreWordsTaken asks_order asks_shape kind_of_words worker_count grid_size
asked words texts shape order kind e found =
    let f = subst (λ (w : List Text). AreFound w shape order kind) (sym e) found in
    (((f.0, ap is_grid_size f.4), f.1, f.2), (f.3, f.4), f.5)

-- the word `mesh` asks for the report alone
pub mesh_words : (words : List (String Global)) → Say (codes "mesh" ∷ []) words → AreAsked words false false Reports
mesh_words words m = asked words (m.0 ∷ codes "mesh" ∷ []) false false Reports m.1 (mesh_found m.0)

-- `mesh --order` for the order too
pub mesh_order_words : (words : List (String Global)) → Say (codes "mesh" ∷ codes "--order" ∷ []) words →
    AreAsked words false true Reports
mesh_order_words words m = asked words (m.0 ∷ codes "mesh" ∷ codes "--order" ∷ []) false true Reports
    m.1 (mesh_order_found m.0)

-- `shape` for the shapes
pub shape_words : (words : List (String Global)) → Say (codes "shape" ∷ []) words → AreAsked words true false Reports
shape_words words m = asked words (m.0 ∷ codes "shape" ∷ []) true false Reports m.1 (shape_found m.0)

-- `shape --order` for both
pub shape_order_words : (words : List (String Global)) → Say (codes "shape" ∷ codes "--order" ∷ []) words →
    AreAsked words true true Reports
shape_order_words words m = asked words (m.0 ∷ codes "shape" ∷ codes "--order" ∷ []) true true Reports
    m.1 (shape_order_found m.0)

-- `steps` for the least alphas
pub steps_words : (words : List (String Global)) → Say (codes "steps" ∷ []) words → AreAsked words false false Steps
steps_words words m = asked words (m.0 ∷ codes "steps" ∷ []) false false Steps m.1 (steps_found m.0)

-- `parts` for the solid parts
pub parts_words : (words : List (String Global)) → Say (codes "parts" ∷ []) words → AreAsked words false false Parts
parts_words words m = asked words (m.0 ∷ codes "parts" ∷ []) false false Parts m.1 (parts_found m.0)

-- `near` for the answers to queries
pub near_words : (words : List (String Global)) → Say (codes "near" ∷ []) words → AreAsked words false false Queries
near_words words m = asked words (m.0 ∷ codes "near" ∷ []) false false Queries m.1 (near_found m.0)

-- what `parts` alone asks for
pub parts_asked : (words : List (String Global)) → Say (codes "parts" ∷ []) words →
    (asked_alpha words ≡ 0) × (asked_most words ≡ 0) × (asked_index words ≡ None)
unfolding asked_alpha asked_most asked_index
parts_asked words m = subst HasDefaults (sym m.1) (parts_defaults m.0)

-- what `check` is found to be: with no fault, and a grid of 1 where none is asked for
check_found : (name : Text) → (fault_of program (name ∷ codes "check" ∷ []) ≡ []) ×
    (number_of (codes "grid") 1 most_grid (subcommand_of program (name ∷ codes "check" ∷ [])) ≡ 1) ×
    (kind_met (subcommand_of program (name ∷ codes "check" ∷ [])) ≡ Checks)
unfolding clap_on_literals
check_found name = (refl, refl, refl)

-- so it is taken, and asks for a verdict
pub check_words : (words : List (String Global)) → Say (codes "check" ∷ []) words →
    AreWordsTaken words × Asks Checks words
unfolding AreWordsTaken kind_of_words grid_size
check_words words m =
    let f = subst (λ (w : List Text). (fault_of program w ≡ []) ×
    (number_of (codes "grid") 1 most_grid (subcommand_of program w) ≡ 1) ×
    (kind_met (subcommand_of program w) ≡ Checks)) (sym m.1) (check_found m.0) in
    ((f.0, ap is_grid_size f.1), f.2)

-- words for a report without options have 1 worker and a grid of size 4
pub default_words : (words : List (String Global)) → Say (codes "mesh" ∷ []) words ⊎
    Say (codes "mesh" ∷ codes "--order" ∷ []) words ⊎ Say (codes "shape" ∷ []) words ⊎
    Say (codes "shape" ∷ codes "--order" ∷ []) words →
    ((worker_count words ≡ 1) × (grid_size words ≡ 4)) × Asks Reports words
default_words words (inl m) = let a = mesh_words words m in (a.1, a.2)
default_words words (inr (inl m)) = let a = mesh_order_words words m in (a.1, a.2)
default_words words (inr (inr (inl m))) = let a = shape_words words m in (a.1, a.2)
default_words words (inr (inr (inr m))) = let a = shape_order_words words m in (a.1, a.2)

-- what a parse met is what the words name
pub met_is : (a : App) (words : List (String Global)) (met : Option (Text × List Row)) → a ≡ program →
    (is_simple a ≡ true → met ≡ subcommand_of a (texts_of words)) → met ≡ subcommand_of program (texts_of words)
met_is a words met e h = h (ap is_simple e ∙ program_is_simple) ∙ ap (λ (p : App). subcommand_of p (texts_of words)) e

-- a parse that succeeds, with a grid of one of the sizes, takes the words
pub taken : (a : App) (words : List (String Global)) (met : Option (Text × List Row)) → a ≡ program →
    (is_simple_and_free a ≡ true → fault_of a (texts_of words) ≡ [])
    → (is_simple a ≡ true → met ≡ subcommand_of a (texts_of words)) →
    is_grid_size (number_of (codes "grid") 1 most_grid met) ≡ true → AreWordsTaken words
unfolding AreWordsTaken grid_size
taken a words met e h k g = (
  subst (λ (p : App). fault_of p (texts_of words) ≡ []) e (h (ap is_simple_and_free e ∙ program_is_simple_and_free)),
  subst (λ (m : Option (Text × List Row)). is_grid_size (number_of (codes "grid") 1 most_grid m) ≡ true)
      (met_is a words met e k) g,
)

-- and its matches tell the task
pub task_is : (a : App) (words : List (String Global)) (met : Option (Text × List Row)) (task : Task) → a ≡ program →
    IsTaskOf met task
    → (is_simple a ≡ true → met ≡ subcommand_of a (texts_of words)) → IsTask words task
task_is a words met task e k h = subst (λ (m : Option (Text × List Row)). IsTaskOf m task) (met_is a words met e h) k

-- a parse that succeeds with a grid of another size refuses them
pub grid_refused : (a : App) (words : List (String Global)) (met : Option (Text × List Row)) → a ≡ program →
    (is_simple a ≡ true → met ≡ subcommand_of a (texts_of words))
    → false ≡ is_grid_size (number_of (codes "grid") 1 most_grid met) → AreWordsTaken words → ⊥
unfolding AreWordsTaken grid_size
grid_refused a words met e k g t =
    let f = ap (λ (m : Option (Text × List Row)). is_grid_size (number_of (codes "grid") 1 most_grid m))
    (met_is a words met e k) in
    clash (g ∙ f ∙ t.1)
  where
    clash : false ≡ true → ⊥
    clash e = cc

-- of no fault none is among the faults
none_among : (k : ErrorKind) (kinds : Kinds) → kinds ≡ [] → IsAmong k kinds → ⊥
none_among k [] e h = h
none_among k (x ∷ kinds) e h = absurd (cc)

-- a parse that fails otherwise than for want of memory refuses them
pub refused : (a : App) (words : List (String Global)) (k : ErrorKind) → a ≡ program
    → (is_simple_and_free a ≡ true → (k ≡ OutOfMemory) ⊎ IsAmong k (fault_of a (texts_of words))) → k ≢ OutOfMemory →
    AreWordsTaken words → ⊥
unfolding AreWordsTaken
refused a words k e h n t =
    elim (h (ap is_simple_and_free e ∙ program_is_simple_and_free)) [
      | inl m ↦ n m
      | inr m ↦ none_among k (fault_of a (texts_of words)) (ap (λ (p : App). fault_of p (texts_of words)) e ∙ t.0) m
    ]

-- a flag, where its text is there and where it is not
pub flag_some : (f : Found) (flag t : Text) (r : Bool) → Some t ≡ first_value f flag → r ≡ bytes_eq t (codes "true") →
    r ≡ flag_in flag (rows_of f)
flag_some f flag t r e q = q ∙ ap (λ (o : Option Text). option_map_or (λ text. bytes_eq text (codes "true")) o false)
    (e ∙ first_value-rows f flag)

-- a flag whose text is not there is not given
pub flag_none : (f : Found) (flag : Text) → None ≡ first_value f flag → false ≡ flag_in flag (rows_of f)
flag_none f flag e = ap (λ (o : Option Text). option_map_or (λ text. bytes_eq text (codes "true")) o false)
    (e ∙ first_value-rows f flag)

-- a number, where its text is there and where it is not
pub number_some : (f : Found) (option t : Text) (least most n : ℕ) → Some t ≡ first_value f option →
    n ≡ number_between least most t → n ≡ number_in option least most (rows_of f)
number_some f option t least most n e q = q ∙ ap (λ (o : Option Text). option_map_or (number_between least most) o
    least) (e ∙ first_value-rows f option)

-- a number whose text is not there is the least
pub number_none : (f : Found) (option : Text) (least most : ℕ) → None ≡ first_value f option →
    least ≡ number_in option least most (rows_of f)
number_none f option least most e = ap (λ (o : Option Text). option_map_or (number_between least most) o least)
    (e ∙ first_value-rows f option)

-- a number that may be left out, where its text is there and where it is not
pub given_some : (f : Found) (option t : Text) (most n : ℕ) → Some t ≡ first_value f option →
    n ≡ number_between 0 most t → Some n ≡ given_in option most (rows_of f)
given_some f option t most n e q =
    ap (λ (m : ℕ). Some m) q ∙ ap (λ (o : Option Text). option_map (number_between 0 most) o)
    (e ∙ first_value-rows f option)

-- a number that may be left out and whose text is not there is none
pub given_none : (f : Found) (option : Text) (most : ℕ) → None ≡ first_value f option →
    None ≡ given_in option most (rows_of f)
given_none f option most e = ap (λ (o : Option Text). option_map (number_between 0 most) o)
    (e ∙ first_value-rows f option)

-- ---- the number of a text

-- a text that is read as a number from the least to the most names it
pub number_read : (text : Text) (least most n : ℕ) → IsNumeral 10 (without_leading_plus text) →
    digits_value 10 (without_leading_plus text) < 2 ^ 64 → n ≡ digits_value 10 (without_leading_plus text) → least ≤ n →
    n ≤ most → n ≡ number_between least most text
number_read text least most n numeral small e from within =
    let taken : is_unsigned_in least most text ≡ true = Accepts-accepts false (Unsigned least most) text
    (numeral, omega arith, omega arith, omega arith) in
    e ∙ sym (ap (λ (b : Bool). cond b (digits_value 10 (without_leading_plus text)) least) taken)

-- any other names none
pub number_not_read : (text : Text) (least most : ℕ) → most < 2 ^ 64 →
    (IsNumeral 10 (without_leading_plus text) → digits_value 10 (without_leading_plus text) < 2 ^ 64 →
    least ≤ digits_value 10 (without_leading_plus text) → digits_value 10 (without_leading_plus text) ≤ most → ⊥) →
    least ≡ number_between least most text
number_not_read text least most small none = by (is_unsigned_in least most text) refl
  where
    by : (b : Bool) → is_unsigned_in least most text ≡ b → least ≡ number_between least most text
    by true t = let a = accepts-Accepts false (Unsigned least most) text t in absurd
        (none a.0 (omega (arith, a.3)) a.2 a.3)
    by false t = sym (ap (λ (b : Bool). cond b (digits_value 10 (without_leading_plus text)) least) t)

-- ---- the task and the words

-- the task of a report is that of words that write one, and has their flags and workers
pub report_task : (words : List (String Global)) (making : Making) (asked : Asked) →
    IsTask words (Report making asked) →
    Asks Reports words × (asked.shape ≡ asks_shape words) × (asked.order ≡ asks_order words) ×
    (making.workers ≡ worker_count words)
unfolding kind_of_words asks_shape asks_order worker_count
report_task words making asked k = (k.1, k.2, k.3, k.0.workers)

-- so it is with the task of the least alphas
pub step_task : (words : List (String Global)) (making : Making) → IsTask words (Step making) →
    Asks Steps words × (making.workers ≡ worker_count words)
unfolding kind_of_words worker_count
step_task words making k = (k.1, k.0.workers)

-- with that of the parts, and its numbers
pub part_task : (words : List (String Global)) (making : Making) (wanted : Wanted) →
    IsTask words (Part making wanted) →
    Asks Parts words × (wanted.alpha ≡ asked_alpha words) × (wanted.most ≡ asked_most words) ×
    (wanted.off ≡ asked_index words) × (making.workers ≡ worker_count words)
unfolding kind_of_words asked_alpha asked_most asked_index worker_count
part_task words making wanted k = (k.1, k.2, k.3, k.4, k.0.workers)

-- with that of the queries
pub query_task : (words : List (String Global)) (making : Making) → IsTask words (Query making) →
    Asks Queries words × (making.workers ≡ worker_count words)
unfolding kind_of_words worker_count
query_task words making k = (k.1, k.0.workers)

-- the task of a verdict is that of words that read the text of a mesh
pub check_task : (words : List (String Global)) → IsTask words Check → Asks Checks words
unfolding kind_of_words
check_task words k = k

-- the task of drawing is that of words that draw, and has their count, start and flag
pub draw_task : (words : List (String Global)) (making : Making) (drawn : Drawn) → IsTask words (Draw making drawn) →
    Asks Draws words × (drawn.count ≡ drawn_count words) × (drawn.start ≡ drawn_start words) ×
    (drawn.text ≡ asks_text words) × (making.workers ≡ worker_count words)
unfolding kind_of_words drawn_count drawn_start asks_text worker_count
draw_task words making drawn k = (k.1, k.2, k.3, k.4, k.0.workers)
