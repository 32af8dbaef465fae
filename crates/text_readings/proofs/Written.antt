-- What is written of a number or of a point is read as it.
use Rattle.std.proofs.Common.{◌≡◌, ℕ, ◌<◌, ◌^◌, false, List, [], ◌∷◌, ◌++◌, refl, sym, ap, subst, ◌∙◌, arith}
use Rattle.std.proofs.Common.{append_assoc}
use Rattle.std.specs.Prelude.{decimal}
use Rattle.std.specs.Str.Parse.{IsNumeral, digits_value, starts_with_minus}
use Rattle.std.proofs.lemmas.Bool.{ne_eqb, both_ways}
use Rattle.std.proofs.lemmas.Fmt.{decimal_is_IsNumeral}
use Rattle.std.proofs.lemmas.Str.Parse.{digit_from_value}
use Rattle.point_order.specs.Coordinates.{x_of, y_of, z_of, IsKey}
use Rattle.text_readings.specs.Readings.{text_of}
use Rattle.text_readings.specs.PointLines.{IsNumberOf, after_minus, IsPointLine, line_of_point}
use Rattle.text_readings.proofs.Points.{coordinate_below}

-- digits begin with no minus
pub no_minus : (ds : List ℕ) → IsNumeral 10 ds → starts_with_minus ds ≡ false
no_minus [] h = absurd (omega (arith, h.0))
no_minus (c ∷ cs) h = let w = digit_from_value c h.1.0 in ne_eqb c 45 (λ e. absurd (omega (arith, w.0)))

-- what is written of a number below 2^64 is that number
pub decimal_is : (n : ℕ) → n < 2 ^ 64 → IsNumberOf (decimal n) n
decimal_is n lt =
    let d = decimal_is_IsNumeral n lt in
    let plain : starts_with_minus (decimal n) ≡ false = no_minus (decimal n) d.0 in
    let same : after_minus (decimal n) ≡ decimal n = rw plain refl in
    record {
      number = subst (λ (ds : List ℕ). IsNumeral 10 ds) (sym same) d.0;
      value = ap (digits_value 10) same ∙ d.1;
      minus = λ t. absurd (both_ways _ plain t);
    }

-- what is written of a key says the point
pub point_line : (p : ℕ) → IsKey p → IsPointLine (line_of_point p) p
point_line p key =
    let below = coordinate_below p in
    record {
      x = decimal (x_of p);
      y = decimal (y_of p);
      z = decimal (z_of p);
      fields = refl;
      x_value = decimal_is (x_of p) (omega (arith, below.0));
      y_value = decimal_is (y_of p) (omega (arith, below.1));
      z_value = decimal_is (z_of p) (omega (arith, below.2));
      key = key;
    }

-- the text of two lists of lines is that of the first and then that of the second
pub text_of_append : (a b : List (List ℕ)) → text_of (a ++ b) ≡ text_of a ++ text_of b
text_of_append [] b = refl
text_of_append (l ∷ a) b = ap (λ (t : List ℕ). l ++ 10 ∷ t) (text_of_append a b)
    ∙ sym (append_assoc l (10 ∷ text_of a) (text_of b))
