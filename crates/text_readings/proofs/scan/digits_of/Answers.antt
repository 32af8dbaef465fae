use Rattle.std.proofs.Common.{◌≡◌, ℕ, ◌+◌, ◌*◌, ◌-◌, ◌<◌, ◌≤◌, min, true, false, List, [], length, get_or, drop, Some}
use Rattle.std.proofs.Common.{None, sym, ap, ◌∙◌, arith}
use Rattle.std.specs.Char.{is_ascii_digit}
use Rattle.std.proofs.lemmas.List.{at_drop_more, at_drop_all, nil_from_length}
use Rattle.std.proofs.lemmas.Bool.{eqb-true, eqb-false}
use Rattle.text_readings.specs.Scanning.{far, digits, digits_from}
use Rattle.text_readings.proofs.Numerals.{digits_is, digits_nil, digits_from_nil, digits_from_digit, digits_from_other}
use Rattle.text_readings.proofs.scan.digits_of.Goals as goal

pub returns-then-is_empty-clause-value : goal.returns-then-is_empty-clause-value
returns-then-is_empty-clause-value c =
    let none : c.args.text.now ≡ [] = nil_from_length c.args.text.now (eqb-true _ _ (sym c.is_empty.ensures
    ∙ c.if-is_empty.true)) in
    sym (ap digits none ∙ digits_nil)

pub returns-then-not-is_ascii_digit-clause-value : goal.returns-then-not-is_ascii_digit-clause-value
returns-then-not-is_ascii_digit-clause-value c =
    let s : List ℕ = c.args.text.now in
    let i : ℕ = c.loop-b.b-index in
    let lt : i < length s = omega arith in
    let some : 0 < length s = omega (arith, eqb-false (length s) 0 (sym c.is_empty.ensures ∙ c.if-is_empty.false)) in
    let other : is_ascii_digit (get_or s i 0) ≡ false = cc in
    let here : digits_from c.loop-b.value (drop i s) ≡ None =
    at_drop_more (digits_from c.loop-b.value) s i 0 lt ∙ digits_from_other c.loop-b.value (get_or s i 0)
    (drop (i + 1) s) other in
    sym here ∙ c.loop-b.invariant.rest ∙ sym (digits_is s some)

-- one digit more: the value with it, and the digits behind it, are read as before
pub loop-b-preserved : goal.loop-b-preserved
loop-b-preserved c =
    let s : List ℕ = c.args.text.now in
    let i : ℕ = c.loop-b.b-index in
    let lt : i < length s = omega arith in
    let digit : is_ascii_digit (get_or s i 0) ≡ true = cc in
    let here : digits_from c.loop-b.value (drop i s) ≡ digits_from (min (c.loop-b.value * 10 + (get_or s i 0 - 48)) far)
    (drop (i + 1) s) =
    at_drop_more (digits_from c.loop-b.value) s i 0 lt ∙ digits_from_digit c.loop-b.value (get_or s i 0)
    (drop (i + 1) s) digit in
    let e : c.min-value.result ≡ min (c.loop-b.value * 10 + (get_or s i 0 - 48)) far = c.min-value.ensures
    ∙ ap (λ (d : ℕ). min (c.loop-b.value * 10 + d) far) c.from.ensures in
    record {
      rest = ap (λ (n : ℕ). digits_from n (drop (i + 1) s)) e ∙ sym here ∙ c.loop-b.invariant.rest;
      bound =
          omega arith;
    }

pub returns-clause-value : goal.returns-clause-value
returns-clause-value c =
    let s : List ℕ = c.args.text.now in
    let i : ℕ = c.loop-b.b-index in
    let le : length s ≤ i = omega arith in
    let some : 0 < length s = omega (arith, eqb-false (length s) 0 (sym c.is_empty.ensures ∙ c.if-is_empty.false)) in
    let here : digits_from c.loop-b.value (drop i s) ≡ Some c.loop-b.value =
    at_drop_all (digits_from c.loop-b.value) s i le ∙ digits_from_nil c.loop-b.value in
    sym here ∙ c.loop-b.invariant.rest ∙ sym (digits_is s some)
