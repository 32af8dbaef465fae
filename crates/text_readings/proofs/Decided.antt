-- What is read of a line is what the line says, and a line that is not read is not of its form or out of range.
use Rattle.std.proofs.Common.{◌≡◌, ℕ, ◌+◌, ◌*◌, ◌<◌, Bool, true, false, cond, eqb, ltb, ◌⊎◌, List, [], ◌∷◌, ◌++◌}
use Rattle.std.proofs.Common.{Option, Some, None, Result, Ok, Err, refl, sym, ap, subst, ◌∙◌, arith, inl, inr}
use Rattle.std.proofs.Common.{append_assoc}
use Rattle.std.specs.List.{AllByRecursion, join_with_byte}
use Rattle.std.specs.Str.Parse.{AllDigits}
use Rattle.std.proofs.lemmas.Bool.{cases_lt, ne_eqb, eqb-true, lt-ltb, le-ltb}
use Rattle.std.proofs.lemmas.Str.Parse.{digit_from_value}
use Rattle.std.proofs.lemmas.List.Splits.{join_with_byte-slice_split}
use Rattle.point_order.specs.Coordinates.{x_of, y_of, z_of}
use Rattle.text_readings.specs.declared.fault.Why.{Why}
use Rattle.text_readings.specs.declared.fault.Why.TheVariants.{Field, Range}
use Rattle.text_readings.specs.PointLines.{IsNumber, HasPointForm, IsPointLine, three_spaced}
use Rattle.text_readings.specs.Scanning.{number, point, point_at, point_from, point_from_fields, fields_of}
use Rattle.text_readings.proofs.Values.{number_read, number_some, number_of, of_number, reading}
use Rattle.text_readings.proofs.Points.{point_at_own, coordinate_below}

-- A function reads the lines of a list, and says where one is not of its form or out of range.
pub record Decides {A : Type 0} (read : List ℕ → Result A Why) (Says : List ℕ → A → Type 0) (Form : List ℕ →
    Type 0) : Type 0 where
  pub sound : (line : List ℕ) (a : A) → read line ≡ Ok a → Says line a
  pub complete : (line : List ℕ) (a : A) → Says line a → read line ≡ Ok a
  pub field : (line : List ℕ) → read line ≡ Err Field → Form line → ⊥
  pub range : (line : List ℕ) → read line ≡ Err Range → Form line
  pub only : (line : List ℕ) (why : Why) → read line ≡ Err why → (why ≡ Field) ⊎ (why ≡ Range)

-- ---- fields

-- none of the bytes is this one
abbrev pub HasNo : ℕ → List ℕ → Type 0
HasNo c bs = AllByRecursion (λ b. eqb b c ≡ false) bs

-- none of them is a space
abbrev pub HasNoSpace : List ℕ → Type 0
HasNoSpace bs = HasNo 32 bs

-- bytes with no space, in front of a space, are the first field, and what is behind it has the others
pub fields_front : (x rest : List ℕ) → HasNoSpace x → fields_of (x ++ 32 ∷ rest) ≡ x ∷ fields_of rest
fields_front [] rest h = refl
fields_front (b ∷ bs) rest h = let e = fields_front bs rest h.1 in let f : eqb b 32 ≡ false = h.0 in rw (f, e) refl

-- bytes with no space are the one field
pub fields_last : (x : List ℕ) → HasNoSpace x → fields_of x ≡ x ∷ []
fields_last [] h = refl
fields_last (b ∷ bs) h = let e = fields_last bs h.1 in let f : eqb b 32 ≡ false = h.0 in rw (f, e) refl

-- no byte below 45, as a space and a line feed are, stands in digits
digits_without : (low : ℕ) (ds : List ℕ) → low < 45 → AllDigits 10 ds → HasNo low ds
digits_without low [] lt h = tt
digits_without low (c ∷ cs) lt h = (
  let w = digit_from_value c h.0 in ne_eqb c low (λ e. absurd (omega (arith, w.0))),
  digits_without low cs lt h.1,
)

-- nor in digits behind a minus
signed_without : (low : ℕ) (t : Bool) (b : ℕ) (bs : List ℕ) → low < 45 → (t ≡ true → b ≡ 45) →
    AllDigits 10 (cond t bs (b ∷ bs)) → HasNo low (b ∷ bs)
signed_without low true b bs lt h all = (
  ne_eqb b low (λ e. absurd (omega (arith, h refl))),
  digits_without low bs lt
      all,
)
signed_without low false b bs lt h all = digits_without low (b ∷ bs) lt all

-- no space or line feed stands in a number
pub number_without : (low : ℕ) (bs : List ℕ) → low < 45 → IsNumber bs → HasNo low bs
number_without low [] lt h = tt
number_without low (b ∷ bs) lt h = signed_without low (eqb b 45) b bs lt (eqb-true b 45) h.1

-- no space stands in a number
pub number_no_space : (bs : List ℕ) → IsNumber bs → HasNoSpace bs
number_no_space bs h = number_without 32 bs (omega arith) h

-- three numbers with one space between two are the fields of their line
three_fields : (x y z : List ℕ) → IsNumber x → IsNumber y → IsNumber z → fields_of (three_spaced x y z) ≡ x ∷ y ∷ z ∷ []
three_fields x y z a b c =
    let whole : three_spaced x y z ≡ x ++ (32 ∷ (y ++ 32 ∷ z)) = append_assoc x (32 ∷ y) (32 ∷ z) in
    let first : fields_of (x ++ (32 ∷ (y ++ 32 ∷ z))) ≡ x ∷ fields_of (y ++ 32 ∷ z) =
    fields_front x (y ++ 32 ∷ z) (number_no_space x a) in
    let second : fields_of (y ++ 32 ∷ z) ≡ y ∷ fields_of z = fields_front y z (number_no_space y b) in
    let third : fields_of z ≡ z ∷ [] = fields_last z (number_no_space z c) in
    ap fields_of whole ∙ first ∙ ap (λ (fs : List (List ℕ)). x ∷ fs) (second
    ∙ ap (λ (fs : List (List ℕ)). y ∷ fs) third)

-- a line with three fields is the three with one space between two
from_fields : (line x y z : List ℕ) → fields_of line ≡ x ∷ y ∷ z ∷ [] → line ≡ three_spaced x y z
from_fields line x y z e =
    let back : line ≡ join_with_byte 32 (x ∷ y ∷ z ∷ []) = sym (join_with_byte-slice_split 32 line)
    ∙ ap (join_with_byte 32) e in
    back ∙ sym (append_assoc x (32 ∷ y) (32 ∷ z))

-- three fields and what follows them
pub four_fields : (x y z rest : List ℕ) → IsNumber x → IsNumber y → IsNumber z →
    fields_of (three_spaced x y z ++ 32 ∷ rest) ≡ x ∷ y ∷ z ∷ fields_of rest
four_fields x y z rest a b c =
    let whole : three_spaced x y z ++ 32 ∷ rest ≡ x ++ (32 ∷ (y ++ (32 ∷ (z ++ 32 ∷ rest)))) =
    append_assoc (x ++ 32 ∷ y) (32 ∷ z) (32 ∷ rest) ∙ append_assoc x (32 ∷ y) (32 ∷ (z ++ 32 ∷ rest)) in
    ap fields_of whole
    ∙ fields_front x (y ++ (32 ∷ (z ++ 32 ∷ rest))) (number_no_space x a)
    ∙ ap (λ (fs : List (List ℕ)). x ∷ fs) (fields_front y (z ++ 32 ∷ rest) (number_no_space y b))
    ∙ ap (λ (fs : List (List ℕ)). x ∷ y ∷ fs) (fields_front z rest (number_no_space z c))

-- a line with four fields or more is the first three, a space, and the others with spaces between
pub from_four : (line x y z u : List ℕ) (fs : List (List ℕ)) → fields_of line ≡ x ∷ y ∷ z ∷ u ∷ fs →
    line ≡ three_spaced x y z ++ 32 ∷ join_with_byte 32 (u ∷ fs)
from_four line x y z u fs e =
    let rest : List ℕ = join_with_byte 32 (u ∷ fs) in
    let back : line ≡ join_with_byte 32 (x ∷ y ∷ z ∷ u ∷ fs) =
    sym (join_with_byte-slice_split 32 line) ∙ ap (join_with_byte 32) e in
    back ∙ sym (append_assoc (x ++ 32 ∷ y) (32 ∷ z) (32 ∷ rest) ∙ append_assoc x (32 ∷ y) (32 ∷ (z ++ 32 ∷ rest)))

-- ---- points

-- three numbers are the coordinates of a point, or one of them is out of range
point_at_cases : (a b c : ℕ) → ((a < 16384) × (b < 16384) × (c < 16384) × (point_at a b c ≡ Ok (a * 268435456 + b *
    16384 + c))) ⊎ (point_at a b c ≡ Err Range)
point_at_cases a b c =
    elim (cases_lt a 16384) [
      | inr le ↦ let e : ltb a 16384 ≡ false = le-ltb _ _ le in inr (rw e refl)
      | inl p ↦ elim (cases_lt b 16384) [
        | inr le ↦ let d : ltb a 16384 ≡ true = lt-ltb _ _ p in let e : ltb b 16384 ≡ false =
            le-ltb _ _ le in inr (rw (d, e) refl)
        | inl q ↦ elim (cases_lt c 16384) [
          | inr le ↦ let d : ltb a 16384 ≡ true = lt-ltb _ _ p in let e : ltb b 16384 ≡ true =
              lt-ltb _ _ q in let f : ltb c 16384 ≡ false = le-ltb _ _ le in inr (rw (d, e, f) refl)
          | inl r ↦ let d : ltb a 16384 ≡ true = lt-ltb _ _ p in let e : ltb b 16384 ≡ true =
              lt-ltb _ _ q in let f : ltb c 16384 ≡ true = lt-ltb _ _ r in inl (p, q, r, rw (d, e, f) refl)
        ]
      ]
    ]

-- a point that is read
abbrev pub done : ℕ → Result ℕ Why
done n = Ok n

-- what is read is read as one thing
pub ok_same : (m n : ℕ) → done m ≡ done n → m ≡ n
ok_same m n h = cc

-- what is not read is not read for one reason
pub err_same : {A : Type 0} (v w : Why) → ◌≡◌ {A = Result A Why} (Err v) (Err w) → v ≡ w
err_same v w h = cc

-- a line of the form, with what is read of its numbers
record Three (line : List ℕ) : Type 0 where
  x : List ℕ
  y : List ℕ
  z : List ℕ
  a : ℕ
  b : ℕ
  c : ℕ
  fields : line ≡ three_spaced x y z
  x_read : number x ≡ Some a
  y_read : number y ≡ Some b
  z_read : number z ≡ Some c
  point_read : point line ≡ point_at a b c

-- what is read of a line as a point depends on its fields alone
point_fields : (line : List ℕ) (fs : List (List ℕ)) → fields_of line ≡ fs → point line ≡ point_from_fields fs
unfolding point
point_fields line fs e = ap point_from_fields e

-- the fields of a line of a point's form are its three numbers
form_fields : (line : List ℕ) (f : HasPointForm line) → fields_of line ≡ f.x ∷ f.y ∷ f.z ∷ []
form_fields line f = ap fields_of f.fields ∙ three_fields f.x f.y f.z f.x_number f.y_number f.z_number

-- of a line of a point's form three numbers are read
form_three : (line : List ℕ) → HasPointForm line → Three line
form_three line f = record {
  x = f.x;
  y = f.y;
  z = f.z;
  a = reading f.x;
  b = reading f.y;
  c = reading f.z;
  fields = f.fields;
  x_read = number_read f.x f.x_number;
  y_read = number_read f.y f.y_number;
  z_read = number_read f.z f.z_number;
  point_read = point_fields line (f.x ∷ f.y ∷ f.z ∷ []) (form_fields line f)
      ∙ ap (λ (o : Option ℕ). point_from o (number f.y) (number f.z)) (number_read f.x f.x_number)
      ∙ ap (λ (o : Option ℕ). point_from (Some (reading f.x)) o (number f.z)) (number_read f.y f.y_number)
      ∙ ap (λ (o : Option ℕ). point_from (Some (reading f.x)) (Some (reading f.y)) o) (number_read f.z f.z_number);
}

-- a line of which three numbers are read is of the form
three_form : (line : List ℕ) → Three line → HasPointForm line
three_form line t = record {
  x = t.x;
  y = t.y;
  z = t.z;
  fields = t.fields;
  x_number = number_some t.x t.a t.x_read;
  y_number = number_some t.y t.b t.y_read;
  z_number = number_some t.z t.c t.z_read;
}

-- what is read of three fields
numbers_view : (line x y z : List ℕ) (i j k : Option ℕ) → fields_of line ≡ x ∷ y ∷ z ∷ [] → number x ≡ i →
    number y ≡ j → number z ≡ k → (point line ≡ Err Field) ⊎ Three line
numbers_view line x y z None j k e p q r = inl (point_fields line (x ∷ y ∷ z ∷ []) e
    ∙ ap (λ (o : Option ℕ). point_from o (number y) (number z)) p)
numbers_view line x y z (Some a) None k e p q r =
    inl (point_fields line (x ∷ y ∷ z ∷ []) e ∙ ap (λ (o : Option ℕ). point_from o (number y) (number z)) p
    ∙ ap (λ (o : Option ℕ). point_from (Some a) o (number z)) q)
numbers_view line x y z (Some a) (Some b) None e p q r =
    inl (point_fields line (x ∷ y ∷ z ∷ []) e ∙ ap (λ (o : Option ℕ). point_from o (number y) (number z)) p
    ∙ ap (λ (o : Option ℕ). point_from (Some a) o (number z)) q
    ∙ ap (λ (o : Option ℕ). point_from (Some a) (Some b) o) r)
numbers_view line x y z (Some a) (Some b) (Some c) e p q r = inr (record {
  x = x;
  y = y;
  z = z;
  a = a;
  b = b;
  c = c;
  fields = from_fields line x y z e;
  x_read = p;
  y_read = q;
  z_read = r;
  point_read = point_fields line (x ∷ y ∷ z ∷ []) e ∙ ap (λ (o : Option ℕ). point_from o (number y) (number z)) p
      ∙ ap (λ (o : Option ℕ). point_from (Some a) o (number z)) q
      ∙ ap (λ (o : Option ℕ). point_from (Some a) (Some b) o) r;
})

-- of a line with these fields no point is read for its form, or three numbers are read
fields_view : (line : List ℕ) (fs : List (List ℕ)) → fields_of line ≡ fs → (point line ≡ Err Field) ⊎ Three line
fields_view line [] e = inl (point_fields line [] e)
fields_view line (x ∷ []) e = inl (point_fields line (x ∷ []) e)
fields_view line (x ∷ y ∷ []) e = inl (point_fields line (x ∷ y ∷ []) e)
fields_view line (x ∷ y ∷ z ∷ []) e = numbers_view line x y z (number x) (number y) (number z) e refl refl refl
fields_view line (x ∷ y ∷ z ∷ w ∷ fs) e = inl (point_fields line (x ∷ y ∷ z ∷ w ∷ fs) e)

-- so it is with every line
point_view : (line : List ℕ) → (point line ≡ Err Field) ⊎ Three line
point_view line = fields_view line (fields_of line) refl

-- the coordinates of a packed point
packed_coordinates : (a b c : ℕ) → a < 16384 → b < 16384 → c < 16384 → (x_of (a * 268435456 + b * 16384 + c) ≡ a) ×
    (y_of (a * 268435456 + b * 16384 + c) ≡ b) × (z_of (a * 268435456 + b * 16384 + c) ≡ c)
unfolding x_of y_of z_of
packed_coordinates a b c p q r = (omega arith, omega arith, omega arith)

-- where the three numbers are the coordinates of a point, the line says that point
three_says : (line : List ℕ) (t : Three line) (p : ℕ) → point_at t.a t.b t.c ≡ Ok p → IsPointLine line p
three_says line t p h =
    elim (point_at_cases t.a t.b t.c) [
      | inr e ↦ absurd cc
      | inl k ↦
          let packed : ℕ = t.a * 268435456 + t.b * 16384 + t.c in
          let same : packed ≡ p = ok_same packed p (sym k.3 ∙ h) in
          let at = packed_coordinates t.a t.b t.c k.0 k.1 k.2 in
          subst (λ (q : ℕ). IsPointLine line q) same (record {
            x = t.x;
            y = t.y;
            z = t.z;
            fields = t.fields;
            x_value = of_number t.x (x_of packed) (t.x_read ∙ ap (λ (n : ℕ). Some n) (sym at.0)) (omega (
              arith,
              at.0,
              k.0,
            ));
            y_value = of_number t.y (y_of packed) (t.y_read ∙ ap (λ (n : ℕ). Some n) (sym at.1)) (omega (
              arith,
              at.1,
              k.1,
            ));
            z_value = of_number t.z (z_of packed) (t.z_read ∙ ap (λ (n : ℕ). Some n) (sym at.2)) (omega (
              arith,
              at.2,
              k.2,
            ));
            key = omega (arith, k.0, k.1, k.2);
          })
    ]

-- a point that is read of a line is what the line says
pub point_sound : (line : List ℕ) (p : ℕ) → point line ≡ Ok p → IsPointLine line p
point_sound line p h =
    elim (point_view line) [
      | inl e ↦ absurd cc
      | inr t ↦ three_says line t p (sym t.point_read ∙ h)
    ]

-- a point that a line says is read of it
pub point_complete : (line : List ℕ) (p : ℕ) → IsPointLine line p → point line ≡ Ok p
point_complete line p s =
    let below = coordinate_below p in
    let f : HasPointForm line = record {
      x = s.x;
      y = s.y;
      z = s.z;
      fields = s.fields;
      x_number =
          s.x_value.number;
      y_number = s.y_value.number;
      z_number = s.z_value.number;
    } in
    point_fields line (s.x ∷ s.y ∷ s.z ∷ []) (form_fields line f)
    ∙ ap (λ (o : Option ℕ). point_from o (number s.y) (number s.z)) (number_of s.x (x_of p) s.x_value
    (omega (arith, below.0)))
    ∙ ap (λ (o : Option ℕ). point_from (Some (x_of p)) o (number s.z)) (number_of s.y (y_of p) s.y_value
    (omega (arith, below.1)))
    ∙ ap (λ (o : Option ℕ). point_from (Some (x_of p)) (Some (y_of p)) o) (number_of s.z (z_of p) s.z_value
    (omega (arith, below.2)))
    ∙ point_at_own p s.key

-- coordinates are never wrong in form
point_at_field : (a b c : ℕ) → point_at a b c ≡ Err Field → ⊥
point_at_field a b c h = elim (point_at_cases a b c) [ inl k ↦ (let e = k.3 in absurd cc) | inr e ↦ absurd cc ]

-- a line that is refused for its form is not of it
pub point_field : (line : List ℕ) → point line ≡ Err Field → HasPointForm line → ⊥
point_field line h f = let t = form_three line f in point_at_field t.a t.b t.c (sym t.point_read ∙ h)

-- one that is refused for its range is of the form
pub point_range : (line : List ℕ) → point line ≡ Err Range → HasPointForm line
point_range line h = elim (point_view line) [ inl e ↦ absurd cc | inr t ↦ three_form line t ]

-- a point line is refused for its form or for its range
pub point_only : (line : List ℕ) (why : Why) → point line ≡ Err why → (why ≡ Field) ⊎ (why ≡ Range)
point_only line why h =
    elim (point_view line) [
      | inl e ↦ inl (err_same why Field (sym h ∙ e))
      | inr t ↦ elim (point_at_cases t.a t.b t.c) [
        | inl k ↦ let e = t.point_read in let f = k.3 in absurd cc
        | inr e ↦ inr (err_same why Range (sym h ∙ t.point_read ∙ e))
      ]
    ]

-- so reading a point decides what a line says
pub points_decided : Decides point IsPointLine HasPointForm
points_decided = record {
  sound = point_sound;
  complete = point_complete;
  field = point_field;
  range =
      point_range;
  only = point_only;
}

-- a point line has its form
pub point_form : (line : List ℕ) (p : ℕ) → IsPointLine line p → HasPointForm line
point_form line p s = record {
  x = s.x;
  y = s.y;
  z = s.z;
  fields = s.fields;
  x_number = s.x_value.number;
  y_number = s.y_value.number;
  z_number = s.z_value.number;
}
