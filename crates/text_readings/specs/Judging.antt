-- Judging a text line by line, as a reader does, and what its functions return.
use Rattle.std.specs.Prelude.{◌≡◌, ℕ, Bool, List, [], ◌∷◌, ◌+◌, Result, Ok, Err, if◌then◌else◌}
use Rattle.text_readings.specs.declared.fault.Why.{Why}
use Rattle.text_readings.specs.declared.fault.Why.TheVariants.{Range, Truncated}
use Rattle.text_readings.specs.declared.fault.Fault.{Fault}
use Rattle.text_readings.specs.declared.fault.ReadRefused.{ReadRefused}
use Rattle.text_readings.specs.declared.fault.ReadRefused.TheVariants as refusals
use Rattle.text_readings.specs.declared.fault.LineRefused.{LineRefused}
use Rattle.text_readings.specs.declared.fault.LineRefused.TheVariants as line_refusals

-- where a line leads, or why it is not taken, and whether a text may end
pub record Judge (S : Type 0) : Type 0 where
  pub step : S → List ℕ → Result S Why
  pub may_end : S → Bool

-- the end of the lines; n is the number of the line that is missing, where they may not end
abbrev pub judged_end : {S : Type 0} → Judge S → ℕ → S → Result S Fault
judged_end J n a = if J.may_end a then Ok a else Err (record { line = n; why = Truncated })

-- what follows a line: the rest is judged, or the line was wrong
abbrev pub judged_on : {S : Type 0} → ℕ → Result S Why → (S → Result S Fault) → Result S Fault
judged_on n (Err why) rest = Err (record { line = n; why = why })
judged_on n (Ok a) rest = rest a

-- the lines from line n on
unfoldable pub judge : {S : Type 0} → Judge S → ℕ → S → List (List ℕ) → Result S Fault
judge J n a [] = judged_end J n a
judge J n a (line ∷ lines) = judged_on n (J.step a line) (λ b. judge J (n + 1) b lines)

-- ---- what a line adds

-- what a line says is added, where it may stand there
abbrev pub with_one : {A Y : Type 0} → (A → Bool) → (A → Y) → Result A Why → Result Y Why
with_one may add (Err why) = Err why
with_one may add (Ok a) = if may a then Ok (add a) else Err Range

-- and the place where that leads
abbrev pub then_at : {Y S : Type 0} → (Y → S) → Result Y Why → Result S Why
then_at place (Err why) = Err why
then_at place (Ok g) = Ok (place g)

-- ---- what the functions return

-- What a function returned, seen by view, is what judging gives, unless memory ran out.
abbrev pub Fails : {Y : Type 0} → ReadRefused → Result Y Fault → Type 0
Fails refusals.Memory judged = Unit {0}
Fails (refusals.Bad fault) judged = judged ≡ Err fault

abbrev pub Gives : {X Y : Type 0} → (X → Y) → Result X ReadRefused → Result Y Fault → Type 0
Gives view (Ok x) judged = judged ≡ Ok (view x)
Gives view (Err e) judged = Fails e judged

-- the same of one line, whose number is not known yet
abbrev pub Refuses : {Y : Type 0} → LineRefused → Result Y Why → Type 0
Refuses line_refusals.Memory judged = Unit {0}
Refuses (line_refusals.Bad why) judged = judged ≡ Err why

abbrev pub refused_at : ℕ → LineRefused → ReadRefused
refused_at n line_refusals.Memory = refusals.Memory
refused_at n (line_refusals.Bad why) = refusals.Bad (record { line = n; why = why })

-- what a step left, or why it stopped
abbrev pub Steps : {Y : Type 0} → Result Unit LineRefused → Y → Result Y Why → Type 0
Steps (Ok u) now judged = judged ≡ Ok now
Steps (Err e) now judged = Refuses e judged
