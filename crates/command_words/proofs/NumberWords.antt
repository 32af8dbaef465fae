-- Words with numbers: what `clap` makes of their decimal texts.
use Rattle.std.proofs.Common.{◌≡◌, refl, sym, ap, ap₂, subst, ◌∙◌, ℕ, ◌<◌, ◌≤◌, ◌^◌, ◌==◌, arith, List, [], ◌∷◌, ◌++◌}
use Rattle.std.proofs.Common.{Bool, true, false, cond, codes, drop, ne_eqb}
use Rattle.std.specs.Prelude.{ℤ, pos, neg_ℤ, ◌≤ℤ◌, FitsSigned, Some, decimal, String}
use Rattle.std.specs.declared.alloc.Global.{Global}
use Rattle.std.specs.Int.{w64}
use Rattle.std.specs.Char.{digit_value}
use Rattle.std.specs.Str.Parse.{IsNumeral, digits_value, signed_digits_value, without_leading_plus}
use Rattle.std.specs.Str.Parse.{without_leading_sign}
use Rattle.std.proofs.lemmas.Bool.{le-leb}
use Rattle.std.proofs.lemmas.Fmt.{decimal_is_IsNumeral}
use lib.Dec.{T}
use lib.Signed.{le_z_yes}
use Rattle.clap.specs.Kinds.{Kinds, or_else}
use Rattle.clap.specs.Values.{refused_kind}
use Rattle.clap.specs.ValueTests.{is_signed_in, is_unsigned_in}
use Rattle.clap.specs.Words.{Text, fault_of, subcommand_of}
use Rattle.clap.proofs.OnLiterals.{clap_on_literals}
use Rattle.clap.proofs.ValueTestLemmas.{Accepts-accepts}
use Rattle.clap.specs.declared.builder.value_parser.ValueParser.TheVariants.{Signed, Unsigned}
use Rattle.std.proofs.lemmas.Bool.Decides.{nat_tests}
use Rattle.text_readings.proofs.Cited.{no_minus}
use Rattle.bucket_grid.specs.Grids.{is_grid_size}
use Rattle.command_words.specs.Words.{Draws, Kind, Parts, Queries, Reports, Steps, asked_alpha, asked_index, asked_most}
use Rattle.command_words.specs.Words.{asks_shape, asks_text, drawn_count, drawn_start, given_of, grid_size, has_flag}
use Rattle.command_words.specs.Words.{is_command, kind_met, kind_of_words, most_alpha, most_grid, most_index}
use Rattle.command_words.specs.Words.{most_start, most_workers, number_between, number_of, program, texts_of}
use Rattle.command_words.specs.Words.{worker_count, AreWordsTaken, Asks, Say, gen_line, meshing_line, parts_line}
use Rattle.edit_files.specs.Generator.{most_edits}

-- ---- the decimal text of a number

-- no digit is this byte
other : (c k : ℕ) → digit_value c < 10 → (digit_value k < 10 → ⊥) → (c == k) ≡ false
other c k d n = ne_eqb c k (λ e. n (subst (λ (x : ℕ). digit_value x < 10) e d))

-- a numeral has no plus in front
no_plus : (ds : List ℕ) → IsNumeral 10 ds → without_leading_plus ds ≡ ds
no_plus [] h = refl
no_plus (c ∷ cs) h = ap (λ (b : Bool). drop (cond b 1 0) (c ∷ cs)) (other c 43 h.1.0 (λ l. omega (arith, l)))

-- nor any sign
no_sign : (ds : List ℕ) → IsNumeral 10 ds → without_leading_sign ds ≡ ds
no_sign ds h = ap (λ (b : Bool). cond b (drop 1 ds) (without_leading_plus ds)) (no_minus ds h) ∙ no_plus ds h

-- so its value with a sign is its value
signed : (ds : List ℕ) → IsNumeral 10 ds → signed_digits_value 10 ds ≡ pos (digits_value 10 ds)
signed ds h =
    ap (λ (b : Bool). cond b (neg_ℤ (pos (digits_value 10 (without_leading_sign ds))))
    (pos (digits_value 10 (without_leading_sign ds)))) (no_minus ds h)
    ∙ ap (λ (l : List ℕ). pos (digits_value 10 l)) (no_sign ds h)

-- of two numbers the lesser is so as a whole number too
in_order : (a b : ℕ) → a ≤ b → pos a ≤ℤ pos b
in_order a b l = le_z_yes (subst T (sym (le-leb a b l)) tt)

module _ (least most n : ℕ) (above : least ≤ n) (below : n ≤ most) (small : most < 2 ^ 63) where
  -- the decimal text of the number is a numeral, and its value is the number
  numeral : IsNumeral 10 (decimal n) × (digits_value 10 (decimal n) ≡ n)
  numeral = decimal_is_IsNumeral n (omega (arith, below, small))

  -- an option takes it, where the number is in its range
  pub decimal_taken : is_signed_in (pos least) (pos most) (decimal n) ≡ true
  decimal_taken =
      let z : signed_digits_value 10 (decimal n) ≡ pos n = signed (decimal n) numeral.0 ∙ ap pos numeral.1 in
      Accepts-accepts false (Signed (pos least) (pos most)) (decimal n) (
        subst (IsNumeral 10) (sym (no_sign (decimal n) numeral.0)) numeral.0,
        subst (FitsSigned w64) (sym z) (omega (arith, below, small)),
        subst (λ (x : ℤ). pos least ≤ℤ x) (sym z) (in_order least n above),
        subst (λ (x : ℤ). x ≤ℤ pos most) (sym z) (in_order n most below),
      )

  -- so it is behind a plus that is not there
  value : digits_value 10 (without_leading_plus (decimal n)) ≡ n
  value = ap (digits_value 10) (no_plus (decimal n) numeral.0) ∙ numeral.1

  -- so does one of 64 bits without a sign
  pub decimal_passed : is_unsigned_in least most (decimal n) ≡ true
  decimal_passed =
      Accepts-accepts false (Unsigned least most) (decimal n) (
        subst (IsNumeral 10) (sym (no_plus (decimal n) numeral.0)) numeral.0,
        omega (arith, value, below, small),
        omega (arith, value, above),
        omega (arith, value, below),
      )

  -- and it names that number
  pub decimal_named : number_between least most (decimal n) ≡ n
  decimal_named =
      ap (λ (b : Bool). cond b (digits_value 10 (without_leading_plus (decimal n))) least) decimal_passed ∙ value

-- ---- two options with texts

-- the faults of a word with a text that an option takes or not
word_faults : ℕ → ℕ → Bool → Kinds
word_faults least most taken = or_else (or_else (cond taken [] (refused_kind (Signed (pos least) (pos most)) ∷ [])) [])
    []

-- those of two such words, one after another
both_faults : Kinds → Kinds → Kinds
both_faults a b = or_else (or_else (or_else a (or_else b [])) []) []

-- where both texts are taken, there are none
both_taken : (least most from to : ℕ) (x y : Bool) → x ≡ true → y ≡ true →
    both_faults (word_faults least most x) (word_faults from to y) ≡ []
unfolding word_faults both_faults
both_taken least most from to x y e k =
    ap₂ (λ (x y : Bool). both_faults (word_faults least most x) (word_faults from to y)) e k

-- the words `gen`, a count, a start, and what follows
gen_texts : Text → Text → Text → List Text → List Text
gen_texts name count start rest = name ∷ codes "gen" ∷ (codes "--count=" ++ count) ∷ (codes "--start=" ++ start) ∷ rest

-- what the words are found to be: with no fault, a grid of 4, the command `gen`, its count and start, and with `--text`
-- or not
abbrev AreFoundGen : List Text → Text → Text → Bool → Type 0
AreFoundGen words c s text =
    (is_signed_in (pos 0) (pos most_edits) c ≡ true → is_signed_in (pos 0) (pos most_start) s ≡ true →
    fault_of program words ≡ [])
    × (number_of (codes "grid") 1 most_grid (subcommand_of program words) ≡ 4) ×
    (kind_met (subcommand_of program words) ≡ Draws)
    × (number_of (codes "count") 0 most_edits (subcommand_of program words) ≡ number_between 0 most_edits c)
    × (number_of (codes "start") 0 most_start (subcommand_of program words) ≡ number_between 0 most_start s)
    × (has_flag (codes "text") (subcommand_of program words) ≡ text)

-- without `--text` they are found to be these
gen_found : (name c s : Text) → AreFoundGen (gen_texts name c s []) c s false
unfolding clap_on_literals word_faults both_faults gen_texts
gen_found name c s = (both_taken 0 most_edits 0 most_start _ _, refl, refl, refl, refl, refl)

-- and with it
gen_text_found : (name c s : Text) → AreFoundGen (gen_texts name c s (codes "--text" ∷ [])) c s true
unfolding clap_on_literals word_faults both_faults gen_texts
gen_text_found name c s = (both_taken 0 most_edits 0 most_start _ _, refl, refl, refl, refl, refl)

-- so they are taken, and ask for the file of the count and the start
gen_asked : (words : List (String Global)) (texts : List Text) (count start : ℕ) (text : Bool) → count ≤ most_edits →
    start ≤ most_start → texts_of words ≡ texts → AreFoundGen texts (decimal count) (decimal start) text →
    AreWordsTaken words × Asks Draws words × (drawn_count words ≡ count) × (drawn_start words ≡ start) ×
    (asks_text words ≡ text)
unfolding AreWordsTaken grid_size kind_of_words drawn_count drawn_start asks_text
gen_asked words texts count start text few small e found =
    let f = subst (λ (w : List Text). AreFoundGen w (decimal count) (decimal start) text) (sym e) found in (
      (
        f.0 (decimal_taken 0 most_edits count (omega arith) few (omega arith))
            (decimal_taken 0 most_start start (omega arith) small (omega arith)),
        ap is_grid_size f.1,
      ),
      f.2,
      f.3 ∙ decimal_named 0 most_edits count (omega arith) few (omega arith),
      f.4 ∙ decimal_named 0 most_start start (omega arith) small (omega arith),
      f.5,
    )

-- the words `gen`, `--count=N` and `--start=M` ask for the file of N and M, and with `--text` for its text
pub gen_words : (words : List (String Global)) (count start : ℕ) → count ≤ most_edits → start ≤ most_start →
    Say (gen_line count start []) words →
    AreWordsTaken words × Asks Draws words × (drawn_count words ≡ count) × (drawn_start words ≡ start) ×
    (asks_text words ≡ false)
unfolding gen_texts
gen_words words count start few small m = gen_asked words (gen_texts m.0 (decimal count) (decimal start) []) count start
    false few small m.1 (gen_found m.0 (decimal count) (decimal start))

-- the same words with `--text`
pub gen_text_words : (words : List (String Global)) (count start : ℕ) → count ≤ most_edits → start ≤ most_start →
    Say (gen_line count start (codes "--text" ∷ [])) words →
    AreWordsTaken words × Asks Draws words × (drawn_count words ≡ count) × (drawn_start words ≡ start) ×
    (asks_text words ≡ true)
unfolding gen_texts
gen_text_words words count start few small m = gen_asked words (gen_texts m.0 (decimal count) (decimal start)
    (codes "--text" ∷ [])) count start true few small m.1 (gen_text_found m.0 (decimal count) (decimal start))

-- ---- three options with texts

-- the faults of the text of `--alpha`, and those of three words
alpha_faults : Bool → Kinds
alpha_faults taken = or_else (or_else (cond taken [] (refused_kind (Unsigned 0 most_alpha) ∷ [])) []) []

-- those of three words, one after another
three_faults : Kinds → Kinds → Kinds → Kinds
three_faults a b c = or_else (or_else (or_else a (or_else b (or_else c []))) []) []

-- the words `parts`, an alpha, a most of parts and an index
parts_texts : Text → Text → Text → Text → List Text
parts_texts name alpha most index = name ∷ codes "parts" ∷ (codes "--alpha=" ++ alpha) ∷ (codes "--most=" ++ most) ∷
    (codes "--off=" ++ index) ∷ []

-- what the words are found to be: with no fault, one worker, a grid of 4, the command `parts`, its alpha, its most
-- parts and its index
abbrev AreFoundParts : List Text → Text → Text → Text → Type 0
AreFoundParts words a m i =
    (is_unsigned_in 0 most_alpha a ≡ true → is_signed_in (pos 0) (pos most_index) m ≡ true →
    is_signed_in (pos 0) (pos most_index) i ≡ true → fault_of program words ≡ [])
    × (number_of (codes "workers") 1 most_workers (subcommand_of program words) ≡ 1)
    × (number_of (codes "grid") 1 most_grid (subcommand_of program words) ≡ 4)
    × (kind_met (subcommand_of program words) ≡ Parts)
    × (number_of (codes "alpha") 0 most_alpha (subcommand_of program words) ≡ number_between 0 most_alpha a)
    × (number_of (codes "most") 0 most_index (subcommand_of program words) ≡ number_between 0 most_index m)
    × (given_of (codes "off") most_index (subcommand_of program words) ≡ Some (number_between 0 most_index i))

-- they are found to be these
parts_at_found : (name a m i : Text) → AreFoundParts (parts_texts name a m i) a m i
unfolding clap_on_literals word_faults alpha_faults three_faults parts_texts
parts_at_found name a m i = (
  λ e k l. ap (λ (x : Bool). three_faults (alpha_faults x) (word_faults 0 most_index
      (is_signed_in (pos 0) (pos most_index) m)) (word_faults 0 most_index
      (is_signed_in (pos 0) (pos most_index) i))) e
      ∙ ap₂ (λ (x y : Bool). three_faults (alpha_faults true) (word_faults 0 most_index x)
      (word_faults 0 most_index y)) k l,
  refl,
  refl,
  refl,
  refl,
  refl,
  refl,
)

-- so they are taken, and ask for the parts at the alpha, the most parts and the index
parts_asked_at : (words : List (String Global)) (texts : List Text) (alpha most index : ℕ) → alpha ≤ most_alpha →
    most ≤ most_index → index ≤ most_index → texts_of words ≡ texts →
    AreFoundParts texts (decimal alpha) (decimal most) (decimal index) →
    AreWordsTaken words × Asks Parts words × (worker_count words ≡ 1) × (grid_size words ≡ 4)
    × (asked_alpha words ≡ alpha) × (asked_most words ≡ most) × (asked_index words ≡ Some index)
unfolding AreWordsTaken grid_size worker_count kind_of_words asked_alpha asked_most asked_index
parts_asked_at words texts alpha most index a m i e found =
    let f = subst (λ (w : List Text). AreFoundParts w (decimal alpha) (decimal most) (decimal index)) (sym e) found in (
      (
        f.0 (decimal_passed 0 most_alpha alpha (omega arith) a (omega arith))
            (decimal_taken 0 most_index most (omega arith) m (omega arith))
            (decimal_taken 0 most_index index (omega arith) i (omega arith)),
        ap is_grid_size f.2,
      ),
      f.3,
      f.1,
      f.2,
      f.4 ∙ decimal_named 0 most_alpha alpha (omega arith) a (omega arith),
      f.5 ∙ decimal_named 0 most_index most (omega arith) m (omega arith),
      f.6 ∙ ap (λ (n : ℕ). Some n) (decimal_named 0 most_index index (omega arith) i (omega arith)),
    )

-- the words `parts`, `--alpha=A`, `--most=K` and `--off=I` ask for A, K and I
pub parts_at_words : (words : List (String Global)) (alpha most index : ℕ) → alpha ≤ most_alpha → most ≤ most_index →
    index ≤ most_index → Say (parts_line alpha most index) words →
    AreWordsTaken words × Asks Parts words × (worker_count words ≡ 1) × (grid_size words ≡ 4)
    × (asked_alpha words ≡ alpha) × (asked_most words ≡ most) × (asked_index words ≡ Some index)
unfolding parts_texts
parts_at_words words alpha most index a m i w = parts_asked_at words
    (parts_texts w.0 (decimal alpha) (decimal most) (decimal index)) alpha most index a m i w.1
    (parts_at_found w.0 (decimal alpha) (decimal most) (decimal index))

-- ---- the words `--workers=N` and `--grid=M`

-- a size of a grid is a number that the option takes
grid_above : (g : ℕ) → is_grid_size g ≡ true → 1 ≤ g
grid_above g h = grind (arith, nat_tests)

-- and is at most 16
grid_below : (g : ℕ) → is_grid_size g ≡ true → g ≤ 16
grid_below g h = grind (arith, nat_tests)

-- a command, a number of workers and a size of a grid
meshing_texts : Text → Text → Text → Text → List Text
meshing_texts name command workers grid = name ∷ command ∷ (codes "--workers=" ++ workers) ∷ (codes "--grid=" ++ grid) ∷
    []

-- what the words are found to be: with no fault, a command of a kind, its workers and its grid, and `shape` or not
abbrev AreFoundMeshing : List Text → Text → Text → Bool → Kind → Type 0
AreFoundMeshing words w g shape kind =
    (is_signed_in (pos 1) (pos most_workers) w ≡ true → is_signed_in (pos 1) (pos most_grid) g ≡ true →
    fault_of program words ≡ [])
    × (number_of (codes "workers") 1 most_workers (subcommand_of program words) ≡ number_between 1 most_workers w)
    × (number_of (codes "grid") 1 most_grid (subcommand_of program words) ≡ number_between 1 most_grid g)
    × (is_command (codes "shape") (subcommand_of program words) ≡ shape)
    × (kind_met (subcommand_of program words) ≡ kind)

-- with `mesh` they are found to be these
mesh_found : (name w g : Text) → AreFoundMeshing (meshing_texts name (codes "mesh") w g) w g false Reports
unfolding clap_on_literals word_faults both_faults meshing_texts
mesh_found name w g = (both_taken 1 most_workers 1 most_grid _ _, refl, refl, refl, refl)

-- with `shape`
shape_found : (name w g : Text) → AreFoundMeshing (meshing_texts name (codes "shape") w g) w g true Reports
unfolding clap_on_literals word_faults both_faults meshing_texts
shape_found name w g = (both_taken 1 most_workers 1 most_grid _ _, refl, refl, refl, refl)

-- with `steps`
steps_found : (name w g : Text) → AreFoundMeshing (meshing_texts name (codes "steps") w g) w g false Steps
unfolding clap_on_literals word_faults both_faults meshing_texts
steps_found name w g = (both_taken 1 most_workers 1 most_grid _ _, refl, refl, refl, refl)

-- with `parts`
parts_found : (name w g : Text) → AreFoundMeshing (meshing_texts name (codes "parts") w g) w g false Parts
unfolding clap_on_literals word_faults both_faults meshing_texts
parts_found name w g = (both_taken 1 most_workers 1 most_grid _ _, refl, refl, refl, refl)

-- with `near`
near_found : (name w g : Text) → AreFoundMeshing (meshing_texts name (codes "near") w g) w g false Queries
unfolding clap_on_literals word_faults both_faults meshing_texts
near_found name w g = (both_taken 1 most_workers 1 most_grid _ _, refl, refl, refl, refl)

-- so they are taken, and ask for these workers and this grid
abbrev AreAskedMeshing : List (String Global) → ℕ → ℕ → Bool → Kind → Type 0
AreAskedMeshing words workers grid shape kind =
    AreWordsTaken words × (worker_count words ≡ workers) × (grid_size words ≡ grid) × (asks_shape words ≡ shape) ×
    (kind_of_words words ≡ kind)

-- words that are found to be these are taken, and ask for that
meshing_asked : (words : List (String Global)) (texts : List Text) (workers grid : ℕ) (shape : Bool) (kind : Kind) →
    0 < workers → workers ≤ most_workers → is_grid_size grid ≡ true → texts_of words ≡ texts
    → AreFoundMeshing texts (decimal workers) (decimal grid) shape kind →
    AreAskedMeshing words workers grid shape kind
unfolding AreWordsTaken kind_of_words worker_count grid_size asks_shape
meshing_asked words texts workers grid shape kind some few size e found =
    let f = subst (λ (w : List Text). AreFoundMeshing w (decimal workers) (decimal grid) shape kind) (sym e) found in
    let sized = f.2 ∙ decimal_named 1 most_grid grid (grid_above grid size) (grid_below grid size) (omega arith) in (
      (
        f.0 (decimal_taken 1 most_workers workers (omega (arith, some)) few (omega arith))
            (decimal_taken 1 most_grid grid (grid_above grid size) (grid_below grid size) (omega arith)),
        ap is_grid_size sized ∙ size,
      ),
      f.1 ∙ decimal_named 1 most_workers workers (omega (arith, some)) few (omega arith),
      sized,
      f.3,
      f.4,
    )

-- the words `mesh`, `shape`, `steps`, `parts` or `near`, `--workers=N` and `--grid=M` ask for N workers and a grid of
-- size M
module _ (words : List (String Global)) (workers grid : ℕ) (some : 0 < workers) (few : workers ≤ most_workers)
    (size : is_grid_size grid ≡ true) where
  -- `mesh` with workers and a grid
  pub mesh_workers_words : Say (meshing_line (codes "mesh") workers grid) words →
      AreAskedMeshing words workers grid false Reports
  unfolding meshing_texts
  mesh_workers_words m = meshing_asked words (meshing_texts m.0 (codes "mesh") (decimal workers) (decimal grid))
      workers grid false Reports some few size m.1 (mesh_found m.0 (decimal workers) (decimal grid))

  -- `shape`
  pub shape_workers_words : Say (meshing_line (codes "shape") workers grid) words →
      AreAskedMeshing words workers grid true Reports
  unfolding meshing_texts
  shape_workers_words m = meshing_asked words (meshing_texts m.0 (codes "shape") (decimal workers) (decimal grid))
      workers grid true Reports some few size m.1 (shape_found m.0 (decimal workers) (decimal grid))

  -- `steps`
  pub steps_workers_words : Say (meshing_line (codes "steps") workers grid) words →
      AreAskedMeshing words workers grid false Steps
  unfolding meshing_texts
  steps_workers_words m = meshing_asked words (meshing_texts m.0 (codes "steps") (decimal workers) (decimal grid))
      workers grid false Steps some few size m.1 (steps_found m.0 (decimal workers) (decimal grid))

  -- `parts`
  pub parts_workers_words : Say (meshing_line (codes "parts") workers grid) words →
      AreAskedMeshing words workers grid false Parts
  unfolding meshing_texts
  parts_workers_words m = meshing_asked words (meshing_texts m.0 (codes "parts") (decimal workers) (decimal grid))
      workers grid false Parts some few size m.1 (parts_found m.0 (decimal workers) (decimal grid))

  -- `near`
  pub near_workers_words : Say (meshing_line (codes "near") workers grid) words →
      AreAskedMeshing words workers grid false Queries
  unfolding meshing_texts
  near_workers_words m = meshing_asked words (meshing_texts m.0 (codes "near") (decimal workers) (decimal grid))
      workers grid false Queries some few size m.1 (near_found m.0 (decimal workers) (decimal grid))
