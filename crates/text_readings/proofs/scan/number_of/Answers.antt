use Rattle.std.proofs.Common.{◌≡◌, ℕ, true, false, ltb, List, Some, None, refl, sym, ap, ◌∙◌, arith}
use Rattle.std.specs.Str.Parse.{starts_with_minus}
use Rattle.std.proofs.lemmas.Bool.{lt-ltb, le-ltb}
use Rattle.text_readings.specs.Scanning.{digits}
use Rattle.text_readings.specs.PointLines.{after_minus}
use Rattle.text_readings.proofs.Numerals.{number_is, number_none}
use Rattle.text_readings.proofs.scan.number_of.Goals as goal
use Rattle.text_readings.proofs.scan.number_of.Goals.{else-is_negative-via-then-is_negative+else-value-gt0}
use Rattle.text_readings.proofs.scan.number_of.Goals.{else-is_negative-via-else-is_negative}

pub returns-in_err-value-clause-value : goal.returns-in_err-value-clause-value
returns-in_err-value-clause-value c =
    let read : None ≡ digits (after_minus c.args.text.now) = c.in_err-value.ensures.value
    ∙ ap digits c.sign_of-is_negative.ensures.rest in
    rw c.from_residual.ensures (sym (number_none c.args.text.now (sym read)))

pub returns-then-value-gt0-clause-value : goal.returns-then-value-gt0-clause-value
returns-then-value-gt0-clause-value c =
    let bs : List ℕ = c.args.text.now in
    let n : ℕ = c.in_ok-value.value in
    let read : Some n ≡ digits (after_minus bs) = c.in_ok-value.ensures.value
    ∙ ap digits c.sign_of-is_negative.ensures.rest in
    let minus : starts_with_minus bs ≡ true = sym c.sign_of-is_negative.ensures.minus ∙ c.if-is_negative.true in
    let above : ltb 0 n ≡ true = lt-ltb 0 n (omega arith) in
    sym (number_is bs n (sym read) ∙ rw (minus, above) refl)

-- with no minus, or with a minus before 0, the number is the value of the digits
pub returns-else-is_negative-clause-value : goal.returns-else-is_negative-clause-value
returns-else-is_negative-clause-value c =
    let bs : List ℕ = c.args.text.now in
    let n : ℕ = c.in_ok-value.value in
    let read : Some n ≡ digits (after_minus bs) = c.in_ok-value.ensures.value
    ∙ ap digits c.sign_of-is_negative.ensures.rest in
    elim c.else-is_negative.branch [
      | else-is_negative-via-then-is_negative+else-value-gt0 w ↦
          let minus : starts_with_minus bs ≡ true = sym c.sign_of-is_negative.ensures.minus ∙ w.if-is_negative.true in
          let none : ltb 0 n ≡ false = le-ltb 0 n (omega arith) in
          sym (number_is bs n (sym read) ∙ rw (minus, none) refl)
      | else-is_negative-via-else-is_negative w ↦
          let minus : starts_with_minus bs ≡ false = sym c.sign_of-is_negative.ensures.minus ∙ w.if-is_negative.false in
          sym (number_is bs n (sym read) ∙ rw minus refl)
    ]
