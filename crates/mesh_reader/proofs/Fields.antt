-- The numbers of a line's fields.
use Rattle.std.proofs.Common.{◌≡◌, ℕ, zero, suc, List, [], ◌∷◌, length, Option, Some, None, refl, sym, ap, subst, ◌∙◌}
use Rattle.std.proofs.Common.{arith, inl, inr}
use Rattle.std.specs.Prelude.{⊤}
use Rattle.std.specs.List.{join_with_byte}
use Rattle.std.proofs.lemmas.List.Splits.{join_with_byte-slice_split}
use Rattle.list_laws.specs.Lists.{IsIn}
use Rattle.text_readings.specs.PointLines.{IsNumber}
use Rattle.text_readings.specs.Scanning.{fields_of, number}
use Rattle.text_readings.proofs.Cited.{fields_front, fields_last, number_no_space, number_read, number_some, reading}
use Rattle.text_readings.proofs.Cited.{some_field}
use Rattle.mesh_reader.specs.Grammar.{HasNumbers}
use Rattle.mesh_reader.specs.Judging.{field_numbers, in_front}

-- what both are in one
pub same_value : {A : Type 0} (x y : A) → ◌≡◌ {A = Option A} (Some x) (Some y) → x ≡ y
same_value x y h = cc

-- what is there is not missing
pub not_none : {A : Type 0} (x : A) → ◌≡◌ {A = Option A} None (Some x) → ⊥
not_none x h = cc

-- each field is read as the number beside it
abbrev pub AreRead : List (List ℕ) → List ℕ → Type 0
AreRead [] [] = ⊤
AreRead (x ∷ fields) (n ∷ ns) = (number x ≡ Some n) × AreRead fields ns
AreRead [] (n ∷ ns) = ⊥
AreRead (x ∷ fields) [] = ⊥

-- a front that is there, and a rest
pub front_some : (o : Option ℕ) (r : Option (List ℕ)) (ns : List ℕ) → in_front o r ≡ Some ns
    → (n : ℕ) × (rest : List ℕ) × (o ≡ Some n) × (r ≡ Some rest) × (ns ≡ n ∷ rest)
front_some None r ns h = absurd (not_none ns h)
front_some (Some n) None ns h = absurd (not_none ns h)
front_some (Some n) (Some rest) ns h = (n, rest, refl, refl, sym (same_value (n ∷ rest) ns h))

-- fields that are read each by itself are read together
pub read_numbers : (n : ℕ) (fields : List (List ℕ)) (ns : List ℕ) → length fields ≡ n → AreRead fields ns
    → field_numbers n fields ≡ Some ns
unfolding field_numbers
read_numbers zero [] [] e h = refl
read_numbers (suc n) [] [] e h = absurd (let g : ⊥ = omega (arith, e) in g)
read_numbers n [] (m ∷ ns) e h = absurd h
read_numbers n (x ∷ fields) [] e h = absurd h
read_numbers zero (x ∷ fields) (m ∷ ns) e h = absurd (let g : ⊥ = omega (arith, e) in g)
read_numbers (suc n) (x ∷ fields) (m ∷ ns) e h =
    ap (λ (o : Option ℕ). in_front o (field_numbers n fields)) h.0
    ∙ ap (λ (o : Option (List ℕ)). in_front (Some m) o) (read_numbers n fields ns (omega (arith, e)) h.1)

-- and the other way round
pub numbers_some : (n : ℕ) (fields : List (List ℕ)) (ns : List ℕ) → field_numbers n fields ≡ Some ns
    → (length fields ≡ n)
    × AreRead fields ns
unfolding field_numbers
numbers_some zero [] [] h = (refl, tt)
numbers_some zero [] (m ∷ ns) h = absurd cc
numbers_some zero (x ∷ fields) ns h = absurd (not_none ns h)
numbers_some (suc n) [] ns h = absurd (not_none ns h)
numbers_some (suc n) (x ∷ fields) [] h =
    let f = front_some (number x) (field_numbers n fields) [] h in absurd (none_there f.0 f.1 f.4)
  where
    -- an empty list has no first
    none_there : (n : ℕ) (rest : List ℕ) → [] ≡ n ∷ rest → ⊥
    none_there n rest e = cc
numbers_some (suc n) (x ∷ fields) (m ∷ ns) h =
    let f = front_some (number x) (field_numbers n fields) (m ∷ ns) h in
    let first : m ≡ f.0 = firsts m f.0 ns f.1 f.4 in
    let others : ns ≡ f.1 = rests m f.0 ns f.1 f.4 in
    let left = numbers_some n fields ns (f.3 ∙ ap (λ (l : List ℕ). Some l) (sym others)) in
    (omega (arith, left.0), (f.2 ∙ ap (λ (k : ℕ). Some k) (sym first), left.1))
  where
    -- equal lists have one first
    firsts : (m n : ℕ) (l r : List ℕ) → m ∷ l ≡ n ∷ r → m ≡ n
    firsts m n l r e = cc

    -- and one rest
    rests : (m n : ℕ) (l r : List ℕ) → m ∷ l ≡ n ∷ r → l ≡ r
    rests m n l r e = cc

-- each field is a number
abbrev pub AreNumbers : List (List ℕ) → Type 0
AreNumbers fields = (x : List ℕ) → IsIn x fields → IsNumber x

-- numbers are read
pub all_read : (fields : List (List ℕ)) → AreNumbers fields → (ns : List ℕ) × AreRead fields ns
all_read [] h = ([], tt)
all_read (x ∷ fields) h =
    let rest = all_read fields (λ y m. h y (inr m)) in
    (reading x ∷ rest.0, (number_read x (h x (inl refl)), rest.1))

-- and what is read is numbers
pub read_all : (fields : List (List ℕ)) (ns : List ℕ) → AreRead fields ns → AreNumbers fields
read_all [] ns h x m = absurd m
read_all (y ∷ fields) [] h x m = absurd h
read_all (y ∷ fields) (n ∷ ns) h x m = elim m [
  | inl e ↦ subst (λ (v : List ℕ). IsNumber v) e (number_some y n h.0)
  | inr k ↦ read_all fields ns h.1 x k
]

-- the fields of numbers that are joined are these
pub fields_joined : (x : List ℕ) (fields : List (List ℕ)) → AreNumbers (x ∷ fields) → fields_of (join_with_byte 32
    (x ∷ fields)) ≡ x ∷ fields
fields_joined x [] h = fields_last x (number_no_space x (h x (inl refl)))
fields_joined x (y ∷ fields) h =
    fields_front x (join_with_byte 32 (y ∷ fields)) (number_no_space x (h x (inl refl)))
    ∙ ap (λ (l : List (List ℕ)). x ∷ l) (fields_joined y fields (λ z m. h z (inr m)))

-- so they are read of a line of the form
pub joined_fields : (n : ℕ) (line : List ℕ) (fields : List (List ℕ)) → length fields ≡ suc n → AreNumbers fields
    → line ≡ join_with_byte 32 fields → fields_of line ≡ fields
joined_fields n line [] e h is = absurd (let g : ⊥ = omega (arith, e) in g)
joined_fields n line (x ∷ fields) e h is = ap fields_of is ∙ fields_joined x fields h

-- the numbers of a line of the form
pub form_read : (n : ℕ) (line : List ℕ) → HasNumbers (suc n) line
    → (ns : List ℕ) × (field_numbers (suc n) (fields_of line)
    ≡ Some ns)
form_read n line h =
    let read = all_read h.fields h.each in (
      read.0,
      ap (field_numbers (suc n)) (joined_fields n line h.fields h.count h.each h.is) ∙ read_numbers
          (suc n) h.fields read.0 h.count read.1,
    )

-- a line that is read has the form
pub read_form : (n : ℕ) (line ns : List ℕ) → field_numbers n (fields_of line) ≡ Some ns → HasNumbers n line
read_form n line ns h =
    let read = numbers_some n (fields_of line) ns h in
    record {
      fields = fields_of line;
      count = read.0;
      each = read_all (fields_of line) ns read.1;
      is = sym (join_with_byte-slice_split 32 line);
    }

-- ---- the fields of a line, one after another

-- in front of what is not there nothing is
front_none : (o : Option ℕ) → in_front o None ≡ None
front_none None = refl
front_none (Some n) = refl

-- a line of one field has no two numbers
pub one_alone : (n : ℕ) (line x : List ℕ) → fields_of line ≡ x ∷ []
    → field_numbers (suc (suc n)) (fields_of line) ≡ None
unfolding field_numbers
one_alone n line x e = ap (field_numbers (suc (suc n))) e ∙ front_none (number x)

-- the first field and the others
pub first_and_others : (n : ℕ) (line x rest : List ℕ) → fields_of line ≡ x ∷ fields_of rest → field_numbers (suc n)
    (fields_of line) ≡ in_front (number x) (field_numbers n (fields_of rest))
unfolding field_numbers
first_and_others n line x rest e = ap (field_numbers (suc n)) e

-- two fields
pub two_fields : (line x rest y : List ℕ) → fields_of line ≡ x ∷ fields_of rest → fields_of rest ≡ y ∷ []
    → field_numbers 2
    (fields_of line) ≡ in_front (number x) (in_front (number y) (Some []))
unfolding field_numbers
two_fields line x rest y e f = ap (field_numbers 2) (e ∙ ap (λ (l : List (List ℕ)). x ∷ l) f)

-- and more than two
pub more_fields : (line x rest y more : List ℕ) → fields_of line ≡ x ∷ fields_of rest → fields_of rest
    ≡ y ∷ fields_of more → field_numbers 2 (fields_of line) ≡ None
unfolding field_numbers
more_fields line x rest y more e f =
    let some = some_field more in
    ap (field_numbers 2) (e ∙ ap (λ (l : List (List ℕ)). x ∷ l) (f ∙ ap (λ (l : List (List ℕ)). y ∷ l) some.2))
    ∙ ap (λ (o : Option (List ℕ)). in_front (number x) o) (front_none (number y)) ∙ front_none (number x)

-- without the first number there are none
pub no_first : (n : ℕ) (line x rest : List ℕ) → fields_of line ≡ x ∷ fields_of rest → number x ≡ None → field_numbers
    (suc n) (fields_of line) ≡ None
no_first n line x rest e h = first_and_others n line x rest e ∙ ap (λ (o : Option ℕ). in_front o (field_numbers n
    (fields_of rest))) h

-- nor without the others
pub no_others : (n : ℕ) (line x rest : List ℕ) → fields_of line ≡ x ∷ fields_of rest → field_numbers n (fields_of rest)
    ≡ None → field_numbers (suc n) (fields_of line) ≡ None
no_others n line x rest e h = first_and_others n line x rest e ∙ ap (λ (o : Option (List ℕ)). in_front (number x) o) h
    ∙ front_none (number x)

-- with both there are
pub with_first : (n : ℕ) (line x rest : List ℕ) (k : ℕ) (ns : List ℕ) → fields_of line ≡ x ∷ fields_of rest → number x
    ≡ Some k → field_numbers n (fields_of rest) ≡ Some ns → field_numbers (suc n) (fields_of line) ≡ Some (k ∷ ns)
with_first n line x rest k ns e h g =
    first_and_others n line x rest e ∙ ap (λ (o : Option ℕ). in_front o (field_numbers n (fields_of rest))) h ∙ ap (λ
    (o : Option (List ℕ)). in_front (Some k) o) g
