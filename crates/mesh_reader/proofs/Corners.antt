-- The lines of cells and triples: indices in range, of points that ascend.
use Rattle.std.proofs.Common.{◌≡◌, ℕ, suc, ◌<◌, Bool, true, false, cond, ltb, ◌&&◌, List, [], ◌∷◌, length, Option, Some}
use Rattle.std.proofs.Common.{None, Result, Ok, Err, refl, sym, ap, subst, ◌∙◌, arith, inl, inr}
use Rattle.std.specs.Prelude.{◌⊎◌, slice_index_or, MatchOption}
use Rattle.std.proofs.lemmas.Bool.{and_parts, and_from, ltb-true, lt-ltb}
use Rattle.list_laws.specs.Lists.{IsAscending}
use Rattle.std.proofs.lemmas.List.Splits.{join_with_byte-slice_split}
use Rattle.text_readings.specs.declared.fault.Why.{Why}
use Rattle.text_readings.specs.declared.fault.Why.TheVariants.{Field, Range}
use Rattle.text_readings.specs.PointLines.{IsNumber}
use Rattle.text_readings.specs.Scanning.{fields_of, number}
use Rattle.text_readings.proofs.Cited.{Decides, number_of, of_number}
use Rattle.mesh_reader.specs.Grammar.{AreIndices, HasNumbers, IsIndexLine, IsIndexOf, point_limit}
use Rattle.mesh_reader.specs.Judging.{ascends, corners_from, field_numbers, in_front, in_order, indexed_corners}
use Rattle.mesh_reader.specs.Judging.{indexed_point, indexed_points}
use Rattle.mesh_reader.proofs.Fields.{AreNumbers, AreRead, form_read, front_some, joined_fields, not_none, numbers_some}
use Rattle.mesh_reader.proofs.Fields.{read_form, read_numbers, same_value}

-- ---- the order of the points

-- numbers that the test passes ascend
pub ascends_says : (q : List ℕ) → ascends q ≡ true → IsAscending q
ascends_says [] h = tt
ascends_says (x ∷ []) h = (tt, tt)
ascends_says (x ∷ y ∷ l) h = let p = and_parts (ltb x y) (ascends (y ∷ l)) h in (
  ltb-true x y p.0,
  ascends_says
      (y ∷ l) p.1,
)

-- and those that ascend pass it
pub says_ascends : (q : List ℕ) → IsAscending q → ascends q ≡ true
says_ascends [] h = refl
says_ascends (x ∷ []) h = refl
says_ascends (x ∷ y ∷ l) h = and_from (ltb x y) (ascends (y ∷ l)) (lt-ltb x y h.0) (says_ascends (y ∷ l) h.1)

-- ---- indices

-- what a test and a value come to
kept_some : (t : Bool) (v p : ℕ) → cond t (Some v) None ≡ Some p → (t ≡ true) × (v ≡ p)
kept_some true v p h = (refl, same_value v p h)
kept_some false v p h = absurd (not_none p h)

-- an index that is read
index_says : (s x : List ℕ) (i p : ℕ) → number x ≡ Some i → indexed_point s i ≡ Some p → IsIndexOf s x p
index_says s x i p read h =
    let k = kept_some (ltb i (length s) && ltb i point_limit) (slice_index_or s i 0) p h in
    let t = and_parts (ltb i (length s)) (ltb i point_limit) k.0 in
    let low : i < point_limit = ltb-true i point_limit t.1 in
    (i, of_number x i read (omega (arith, low)), ltb-true i (length s) t.0, low, k.1)

-- and one that is right is read
says_index : (s x : List ℕ) (p : ℕ) (h : IsIndexOf s x p) → (number x ≡ Some h.0) × (indexed_point s h.0 ≡ Some p)
says_index s x p h =
    let a : ltb h.0 (length s) ≡ true = lt-ltb h.0 (length s) h.2 in
    let b : ltb h.0 point_limit ≡ true = lt-ltb h.0 point_limit h.3 in
    let low : h.0 < point_limit = h.3 in
    (number_of x h.0 h.1 (omega (arith, low)), rw (a, b) (ap (λ (v : ℕ). Some v) h.4))

-- indices that are read
indices_say : (s : List ℕ) (fields : List (List ℕ)) (ns q : List ℕ) → AreRead fields ns → indexed_points s ns ≡ Some q
    → AreIndices s fields q
unfolding indexed_points
indices_say s [] [] [] r h = tt
indices_say s [] [] (p ∷ q) r h = absurd cc
indices_say s [] (n ∷ ns) q r h = absurd r
indices_say s (x ∷ fields) [] q r h = absurd r
indices_say s (x ∷ fields) (n ∷ ns) [] r h =
    let f = front_some (indexed_point s n) (indexed_points s ns) [] h in absurd (none_there f.0 f.1 f.4)
  where
    -- an empty list has no first
    none_there : (n : ℕ) (rest : List ℕ) → [] ≡ n ∷ rest → ⊥
    none_there n rest e = cc
indices_say s (x ∷ fields) (n ∷ ns) (p ∷ q) r h =
    let f = front_some (indexed_point s n) (indexed_points s ns) (p ∷ q) h in
    let first : f.0 ≡ p = firsts p f.0 q f.1 f.4 in
    let others : f.1 ≡ q = rests p f.0 q f.1 f.4 in (
      index_says s x n p r.0 (f.2 ∙ ap (λ (k : ℕ). Some k) first),
      indices_say s fields ns q r.1 (f.3 ∙ ap (λ
          (l : List ℕ). Some l) others),
    )
  where
    -- equal lists have one first
    firsts : (m n : ℕ) (l r : List ℕ) → m ∷ l ≡ n ∷ r → n ≡ m
    firsts m n l r e = cc

    -- and one rest
    rests : (m n : ℕ) (l r : List ℕ) → m ∷ l ≡ n ∷ r → r ≡ l
    rests m n l r e = cc

-- and those that are right are read
say_indices : (s : List ℕ) (fields : List (List ℕ)) (q : List ℕ) → AreIndices s fields q → (ns : List ℕ)
    × AreRead fields ns × (indexed_points s ns ≡ Some q)
unfolding indexed_points
say_indices s [] [] h = ([], tt, refl)
say_indices s [] (p ∷ q) h = absurd h
say_indices s (x ∷ fields) [] h = absurd h
say_indices s (x ∷ fields) (p ∷ q) h =
    let one = says_index s x p h.0 in
    let rest = say_indices s fields q h.1 in (
      h.0.0 ∷ rest.0,
      (one.0, rest.1),
      ap (λ (o : Option ℕ). in_front o (indexed_points s rest.0)) one.1 ∙ ap (λ (o : Option
          (List ℕ)). in_front (Some p) o) rest.2,
    )

-- indices are numbers
indices_numbers : (s : List ℕ) (fields : List (List ℕ)) (q : List ℕ) → AreIndices s fields q → AreNumbers fields
indices_numbers s [] q h x m = absurd m
indices_numbers s (y ∷ fields) [] h x m = absurd h
indices_numbers s (y ∷ fields) (p ∷ q) h x m = elim m [
  | inl e ↦ subst (λ (v : List ℕ). IsNumber v) e h.0.1.number
  | inr k ↦ indices_numbers s fields q h.1 x k
]

-- ---- a line

-- a line of indices has its form
pub index_form : (n : ℕ) (s line q : List ℕ) → IsIndexLine n s line q → HasNumbers n line
index_form n s line q h = record {
  fields = h.fields;
  count = h.count;
  each = indices_numbers s h.fields q h.indices;
  is = h.is;
}

-- points that are taken as a line's were there, and ascend
order_some : (o : Option (List ℕ)) (q : List ℕ) → in_order o ≡ Ok q → (o ≡ Some q) × (ascends q ≡ true)
order_some None q h = absurd cc
order_some (Some r) q h = order_kept r q (ascends r) refl h
  where
    -- by the test
    order_kept : (r q : List ℕ) (t : Bool) → ascends r ≡ t → cond t (Ok r) (Err Range) ≡ Ok q → (Some r ≡ Some q) ×
        (ascends q ≡ true)
    order_kept r q true e h = let same : r ≡ q = cc in (ap (λ (l : List ℕ). Some l) same, ap ascends (sym same) ∙ e)
    order_kept r q false e h = absurd cc

-- what was read, where corners were
from_some : (s : List ℕ) (o : Option (List ℕ)) (q : List ℕ) → corners_from s o ≡ Ok q → (ns : List ℕ) × (o ≡ Some ns)
    × (indexed_points s ns ≡ Some q) × (ascends q ≡ true)
from_some s None q h = absurd cc
from_some s (Some ns) q h = let k = order_some (indexed_points s ns) q h in (ns, refl, k.0, k.1)

-- points that are read of a line are what it says
corners_sound : (n : ℕ) (s line q : List ℕ) → indexed_corners n s line ≡ Ok q → IsIndexLine n s line q
unfolding indexed_corners
corners_sound n s line q h =
    let k = from_some s (field_numbers n (fields_of line)) q h in
    let read = numbers_some n (fields_of line) k.0 k.1 in
    record {
      fields = fields_of line;
      is = sym (join_with_byte-slice_split 32 line);
      count = read.0;
      indices = indices_say s (fields_of line) k.0 q read.1 k.2;
      ascending = ascends_says q k.3;
    }

-- points that ascend are taken
order_is : (q : List ℕ) → ascends q ≡ true → in_order (Some q) ≡ Ok q
order_is q h = rw h refl

-- points that a line says are read of it
corners_complete : (n : ℕ) (s line q : List ℕ) → IsIndexLine (suc n) s line q → indexed_corners (suc n) s line ≡ Ok q
unfolding indexed_corners
corners_complete n s line q h =
    let say = say_indices s h.fields q h.indices in
    let each = indices_numbers s h.fields q h.indices in
    let read : field_numbers (suc n) (fields_of line) ≡ Some say.0 =
    ap (field_numbers (suc n)) (joined_fields n line h.fields h.count each h.is) ∙ read_numbers
    (suc n) h.fields say.0 h.count say.1 in
    ap (corners_from s) read ∙ ap in_order say.2 ∙ order_is q (says_ascends q h.ascending)

-- an order is refused for one reason
order_refused : (o : Option (List ℕ)) (why : Why) → in_order o ≡ Err why → why ≡ Range
order_refused None why h = refused why h
  where
    -- equal refusals
    refused : (why : Why) → ◌≡◌ {A = Result (List ℕ) Why} (Err Range) (Err why) → why ≡ Range
    refused why h = cc
order_refused (Some q) why h = by_test (ascends q) h
  where
    -- by the test
    by_test : (t : Bool) → cond t (Ok q) (Err Range) ≡ Err why → why ≡ Range
    by_test true h = absurd cc
    by_test false h = cc

-- the form is not the range
field_not_range : Field ≡ Range → ⊥
field_not_range h = cc

-- why corners were refused
from_err : (s : List ℕ) (o : Option (List ℕ)) (why : Why) → corners_from s o ≡ Err why → ((o ≡ None) × (why
    ≡ Field)) ⊎ ((ns : List ℕ) × (o ≡ Some ns) × (why ≡ Range))
from_err s None why h = inl (refl, refused why h)
  where
    -- equal refusals
    refused : (why : Why) → ◌≡◌ {A = Result (List ℕ) Why} (Err Field) (Err why) → why ≡ Field
    refused why h = cc
from_err s (Some ns) why h = inr (ns, refl, order_refused (indexed_points s ns) why h)

-- a line of indices is refused for its numbers, or for its range where it has them
corners_err : (n : ℕ) (s line : List ℕ) (why : Why) → indexed_corners n s line ≡ Err why
    → ((field_numbers n (fields_of line)
    ≡ None) × (why ≡ Field)) ⊎ ((ns : List ℕ) × (field_numbers n (fields_of line) ≡ Some ns) × (why ≡ Range))
unfolding indexed_corners
corners_err n s line why h = from_err s (field_numbers n (fields_of line)) why h

-- a line that is refused for its form has not so many numbers
corners_field : (n : ℕ) (s line : List ℕ) → indexed_corners (suc n) s line ≡ Err Field → HasNumbers (suc n) line → ⊥
corners_field n s line h form =
    let read = form_read n line form in
    elim (corners_err (suc n) s line Field h) [
      | inl k ↦ not_none read.0 (sym k.0 ∙ read.1)
      | inr k ↦ field_not_range k.2
    ]

-- one that is refused for its range has
corners_range : (n : ℕ) (s line : List ℕ) → indexed_corners n s line ≡ Err Range → HasNumbers n line
corners_range n s line h = elim (corners_err n s line Range h) [
  | inl k ↦ absurd (field_not_range (sym k.1))
  | inr k ↦ read_form n line k.0 k.1
]

-- a line of indices is refused for its form or for its range
corners_only : (n : ℕ) (s line : List ℕ) (why : Why) → indexed_corners n s line ≡ Err why
    → (why ≡ Field) ⊎ (why ≡ Range)
corners_only n s line why h = elim (corners_err n s line why h) [
  | inl k ↦ inl k.1
  | inr k ↦ inr k.2
]

-- corners are read of the lines of indices
pub corners_decided : (n : ℕ) (s : List ℕ)
    → Decides (indexed_corners (suc n) s) (IsIndexLine (suc n) s) (HasNumbers (suc n))
corners_decided n s = record {
  sound = λ line q h. corners_sound (suc n) s line q h;
  complete = λ line q h. corners_complete n s line q h;
  field = λ line h. corners_field n s line h;
  range = λ line h. corners_range (suc n) s line h;
  only = λ line why h. corners_only (suc n) s line why h;
}

-- ---- the points of a line, one after another

-- without one of them there are none
pub missing_point : (s : List ℕ) (i : ℕ) (rest : List ℕ) → indexed_point s i ≡ None → indexed_points s (i ∷ rest) ≡ None
unfolding indexed_points
missing_point s i rest h = ap (λ (o : Option ℕ). in_front o (indexed_points s rest)) h

-- nor without the others
pub missing_others : (s : List ℕ) (i : ℕ) (rest : List ℕ) → indexed_points s rest ≡ None
    → indexed_points s (i ∷ rest) ≡ None
unfolding indexed_points
missing_others s i rest h = ap (λ (o : Option (List ℕ)). in_front (indexed_point s i) o) h ∙ none (indexed_point s i)
  where
    -- nothing behind a front
    none : (o : Option ℕ) → in_front o None ≡ None
    none None = refl
    none (Some n) = refl

-- with both there are
pub with_point : (s : List ℕ) (i p : ℕ) (rest q : List ℕ) → indexed_point s i ≡ Some p → indexed_points s rest ≡ Some q
    → indexed_points s (i ∷ rest) ≡ Some (p ∷ q)
unfolding indexed_points
with_point s i p rest q h k = ap (λ (o : Option ℕ). in_front o (indexed_points s rest)) h ∙ ap (λ (o : Option
    (List ℕ)). in_front (Some p) o) k

-- of no index no point is wanting
pub no_points : (s : List ℕ) → indexed_points s [] ≡ Some []
unfolding indexed_points
no_points s = refl

-- in order they are what was made of them
pub order_made : (o : Option (List ℕ)) (q : List ℕ) (r : Option (List ℕ)) → o ≡ Some q → r ≡ cond (ascends q)
    (Some q) None → MatchOption r (in_order o ≡ Err Range) (λ t. in_order o ≡ Ok t)
order_made o q r h e = subst (λ (v : Option (List ℕ)). MatchOption v (in_order o ≡ Err Range) (λ t. in_order o
    ≡ Ok t)) (sym e) (by_test (ascends q) refl)
  where
    -- by the test
    by_test : (t : Bool) → ascends q ≡ t → MatchOption (cond t (Some q) None) (in_order o ≡ Err Range)
        (λ p. in_order o ≡ Ok p)
    by_test true a = ap in_order h ∙ order_is q a
    by_test false a = ap in_order h ∙ rw a refl

-- a line of other than so many numbers
pub corners_none : (n : ℕ) (s line : List ℕ) → field_numbers n (fields_of line) ≡ None
    → indexed_corners n s line ≡ Err Field
unfolding indexed_corners
corners_none n s line h = ap (corners_from s) h

-- and one of so many
pub corners_some : (n : ℕ) (s line ns : List ℕ) (r : Result (List ℕ) Why) → field_numbers n (fields_of line) ≡ Some ns
    → in_order (indexed_points s ns) ≡ r → indexed_corners n s line ≡ r
unfolding indexed_corners
corners_some n s line ns r h e = ap (corners_from s) h ∙ e
