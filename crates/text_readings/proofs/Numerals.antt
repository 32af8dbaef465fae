-- Numbers, points and edits as they are read.
use Rattle.std.proofs.Common.{◌≡◌, ℕ, ◌+◌, ◌*◌, ◌-◌, ◌<◌, min, true, false, cond, ltb, ◌&&◌, ap, List, [], ◌∷◌, length}
use Rattle.std.proofs.Common.{Some, None, refl, arith}
use Rattle.std.specs.Char.{is_ascii_digit}
use Rattle.std.specs.Str.Parse.{starts_with_minus}
use Rattle.text_readings.specs.PointLines.{after_minus}
use Rattle.text_readings.specs.Scanning.{far, digits, digits_from, signed, number}

-- where there is a digit, the value of digits is that of digits behind none
pub digits_is : (ds : List ℕ) → 0 < length ds → digits ds ≡ digits_from 0 ds
unfolding digits
digits_is [] lt = absurd (omega arith)
digits_is (c ∷ cs) lt = refl

-- behind others no digit adds nothing
pub digits_from_nil : (n : ℕ) → digits_from n [] ≡ Some n
unfolding digits_from
digits_from_nil n = refl

-- a digit behind others, whose value is n, makes ten times n and the digit of it, or `far`
pub digits_from_digit : (n c : ℕ) (cs : List ℕ) → is_ascii_digit c ≡ true →
    digits_from n (c ∷ cs) ≡ digits_from (min (n * 10 + (c - 48)) far) cs
unfolding digits_from
digits_from_digit n c cs h = rw h refl

-- where a byte is no digit, no value is read
pub digits_from_other : (n c : ℕ) (cs : List ℕ) → is_ascii_digit c ≡ false → digits_from n (c ∷ cs) ≡ None
unfolding digits_from
digits_from_other n c cs h = rw h refl

-- of no byte no value is read
pub digits_nil : digits [] ≡ None
unfolding digits
digits_nil = refl

-- a number is read from its digits and its minus
pub number_is : (bs : List ℕ) (n : ℕ) → digits (after_minus bs) ≡ Some n →
    number bs ≡ Some (cond (starts_with_minus bs && ltb 0 n) far n)
unfolding number
number_is bs n h = ap (signed (starts_with_minus bs)) h

-- where no value is read behind the minus, no number is
pub number_none : (bs : List ℕ) → digits (after_minus bs) ≡ None → number bs ≡ None
unfolding number
number_none bs h = ap (signed (starts_with_minus bs)) h
