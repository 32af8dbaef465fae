-- A number that is read is a number, and its value is what was read.
use Rattle.std.proofs.Common.{◌≡◌, ℕ, ◌+◌, ◌*◌, ◌-◌, ◌<◌, ◌≤◌, min, Bool, true, false, cond, ltb, leb, ◌&&◌, List, []}
use Rattle.std.proofs.Common.{◌∷◌, Option, Some, None, refl, sym, ap, ◌∙◌, arith, inl, inr}
use Rattle.std.specs.Char.{is_ascii_digit, digit_value}
use Rattle.std.specs.Str.Parse.{AllDigits, IsNumeral, digits_value, digits_value_after, starts_with_minus}
use Rattle.std.proofs.lemmas.Bool.{cases_lt, cases_Bool, and_parts, and_from, leb-true, le-leb, lt-ltb, le-ltb}
use Rattle.std.proofs.lemmas.Str.Parse.{digit_from_value}
use Rattle.list_laws.proofs.Cited.{one_value}
use Rattle.text_readings.specs.PointLines.{after_minus, IsNumber, IsNumberOf}
use Rattle.text_readings.specs.Scanning.{far, digits, digits_from, signed, number}
use Rattle.text_readings.proofs.Numerals.{digits_from_nil, digits_from_digit, digits_from_other, digits_is, digits_nil}
use Rattle.text_readings.proofs.Numerals.{number_is}

-- ---- digits

-- a byte whose value is below 10 is a digit, and the value is how far it is above the byte of 0
digit_test : (c : ℕ) → digit_value c < 10 → (is_ascii_digit c ≡ true) × (digit_value c ≡ c - 48)
digit_test c h =
    let within = digit_from_value c h in
    let low : leb 48 c ≡ true = le-leb 48 c within.0 in
    let high : leb c 57 ≡ true = le-leb c 57 within.1 in
    let above : ltb c 48 ≡ false = le-ltb c 48 within.0 in
    let below : ltb c 58 ≡ true = lt-ltb c 58 (omega (arith, within.1)) in
    (and_from (leb 48 c) (leb c 57) low high, rw (above, below) refl)

-- a byte that is a digit has a value below 10
digit_from_test : (c : ℕ) → is_ascii_digit c ≡ true → digit_value c < 10
digit_from_test c h =
    let parts = and_parts (leb 48 c) (leb c 57) h in
    let low : 48 ≤ c = leb-true 48 c parts.0 in
    let high : c ≤ 57 = leb-true c 57 parts.1 in
    let above : ltb c 48 ≡ false = le-ltb c 48 low in
    let below : ltb c 58 ≡ true = lt-ltb c 58 (omega arith) in
    let e : digit_value c ≡ c - 48 = rw (above, below) refl in
    rw e (omega arith)

-- digits behind others only add to their value
after_le : (n : ℕ) (ds : List ℕ) → n ≤ digits_value_after 10 n ds
after_le n [] = omega arith
after_le n (c ∷ cs) = omega (arith, after_le (n * 10 + digit_value c) cs)

-- what lies beyond the bound stays there
kept_far : (n : ℕ) (ds : List ℕ) → min (digits_value_after 10 (min n far) ds) far ≡ min (digits_value_after 10 n ds) far
kept_far n ds =
    elim (cases_lt n far) [
      | inl lt ↦ let e : min n far ≡ n = omega arith in ap (λ (m : ℕ). min (digits_value_after 10 m ds) far) e
      | inr le ↦
          let a : min n far ≤ digits_value_after 10 (min n far) ds = after_le (min n far) ds in
          let b : n ≤ digits_value_after 10 n ds = after_le n ds in
          omega arith
    ]

-- of digits behind others the value is read, or `far` where it is more
digits_from_all : (n : ℕ) (ds : List ℕ) → n ≤ far → AllDigits 10 ds →
    digits_from n ds ≡ Some (min (digits_value_after 10 n ds) far)
digits_from_all n [] le all = digits_from_nil n ∙ ap (λ (m : ℕ). Some m) (omega arith)
digits_from_all n (c ∷ cs) le all =
    let test = digit_test c all.0 in
    let m : ℕ = n * 10 + (c - 48) in
    let rest : digits_from (min m far) cs ≡ Some (min (digits_value_after 10 (min m far) cs) far) =
    digits_from_all (min m far) cs (omega arith) all.1 in
    let same : m ≡ n * 10 + digit_value c = ap (λ (d : ℕ). n * 10 + d) (sym test.1) in
    digits_from_digit n c cs test.0 ∙ rest ∙ ap (λ (v : ℕ). Some v) (kept_far m cs
    ∙ ap (λ (v : ℕ). min (digits_value_after 10 v cs) far) same)

-- where a value is read of bytes behind others, all of them are digits
digits_from_some : (n : ℕ) (ds : List ℕ) (v : ℕ) → digits_from n ds ≡ Some v → AllDigits 10 ds
digits_from_some n [] v h = tt
digits_from_some n (c ∷ cs) v h =
    elim (cases_Bool (is_ascii_digit c)) [
      | inl is ↦ (
        digit_from_test c is,
        digits_from_some (min (n * 10 + (c - 48)) far) cs v
            (sym (digits_from_digit n c cs is) ∙ h),
      )
      | inr isnt ↦ let e : digits_from n (c ∷ cs) ≡ None = digits_from_other n c cs isnt in absurd cc
    ]

-- of a numeral the value is read, or `far` where it is more
digits_all : (ds : List ℕ) → IsNumeral 10 ds → digits ds ≡ Some (min (digits_value 10 ds) far)
digits_all ds h = digits_is ds h.0 ∙ digits_from_all 0 ds (omega arith) h.1

-- bytes of which a value is read are a numeral
digits_some : (ds : List ℕ) (v : ℕ) → digits ds ≡ Some v → IsNumeral 10 ds
digits_some [] v h = let e : digits [] ≡ None = digits_nil in absurd cc
digits_some (c ∷ cs) v h = (omega arith, digits_from_some 0 (c ∷ cs) v (sym (digits_is (c ∷ cs) (omega arith)) ∙ h))

-- ---- numbers

-- what is read of a number: its value, or the bound where it is more, or below 0
abbrev pub reading : List ℕ → ℕ
reading bs = cond (starts_with_minus bs && ltb 0 (min (digits_value 10 (after_minus bs)) far)) far
    (min (digits_value 10 (after_minus bs)) far)

-- of a number just that is read
pub number_read : (bs : List ℕ) → IsNumber bs → number bs ≡ Some (reading bs)
number_read bs h = number_is bs (min (digits_value 10 (after_minus bs)) far) (digits_all (after_minus bs) h)

-- what is read is a number
some_digits : (o : Option ℕ) (minus : Bool) (n : ℕ) → signed minus o ≡ Some n → (v : ℕ) × (o ≡ Some v)
some_digits None minus n h = absurd cc
some_digits (Some v) minus n h = (v, refl)

-- bytes of which a number is read are a number
pub number_some : (bs : List ℕ) (n : ℕ) → number bs ≡ Some n → IsNumber bs
unfolding number
number_some bs n h = let d = some_digits (digits (after_minus bs)) (starts_with_minus bs) n h in digits_some
    (after_minus bs) d.0 d.1

-- bytes of which none is read are none
pub number_none_not : (bs : List ℕ) → number bs ≡ None → IsNumber bs → ⊥
number_none_not bs h is = let e = number_read bs is in absurd cc

-- below the bound the reading is the value
reading_value : (minus : Bool) (v n : ℕ) → cond (minus && ltb 0 (min v far)) far (min v far) ≡ n → n < far →
    (v ≡ n) × (minus ≡ true → n ≡ 0)
reading_value true v n h lt =
    elim (cases_lt 0 (min v far)) [
      | inl some ↦ let e : ltb 0 (min v far) ≡ true = lt-ltb _ _ some in let k : far ≡ n = sym (rw e refl)
          ∙ h in absurd (omega arith)
      | inr none ↦ let e : ltb 0 (min v far) ≡ false = le-ltb _ _ none in let k : min v far ≡ n = sym (rw e refl)
          ∙ h in (omega arith, λ _. omega arith)
    ]
reading_value false v n h lt = (omega arith, λ t. absurd cc)

-- and a value below the bound is the reading
value_reading : (minus : Bool) (v n : ℕ) → v ≡ n → (minus ≡ true → n ≡ 0) → n < far →
    cond (minus && ltb 0 (min v far)) far (min v far) ≡ n
value_reading true v n e z lt =
    let none : ltb 0 (min v far) ≡ false = le-ltb _ _ (omega (arith, z refl)) in
    rw none (omega arith)
value_reading false v n e z lt = omega arith

-- the number of bytes, if below the bound, is read of them
pub number_of : (bs : List ℕ) (n : ℕ) → IsNumberOf bs n → n < far → number bs ≡ Some n
number_of bs n h lt =
    number_read bs h.number ∙ ap (λ (m : ℕ). Some m) (value_reading (starts_with_minus bs) (digits_value 10
    (after_minus bs)) n h.value h.minus lt)

-- and what is read below the bound is their number
pub of_number : (bs : List ℕ) (n : ℕ) → number bs ≡ Some n → n < far → IsNumberOf bs n
of_number bs n h lt =
    let is : IsNumber bs = number_some bs n h in
    let same : reading bs ≡ n = one_value (reading bs) n (sym (number_read bs is) ∙ h) in
    let v = reading_value (starts_with_minus bs) (digits_value 10 (after_minus bs)) n same lt in
    record { number = is; value = v.0; minus = v.1 }
