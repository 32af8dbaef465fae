-- The search for four points, as a whole.
use Rattle.std.specs.Prelude.{◌≡◌, ◌≢◌, ℕ, ◌+◌, ◌-◌, ◌<◌, Bool, true, false, not, ◌==◌, ◌&&◌, List, [], ◌∷◌, length}
use Rattle.std.specs.Prelude.{take, drop, slice_index_or, Option, None, Some, slice_index, MatchOption, IfSome, is_some}
use Rattle.std.specs.Prelude.{All, Result, Ok, Err, IfOk, IsErr}
use Rattle.std.specs.List.{position_from}
use Rattle.std.specs.Option.{option_and_then, option_map}
use Rattle.std.proofs.Common.{refl, sym, ◌∙◌, ap, subst, arith}
use Rattle.std.proofs.lemmas.List.{take_rest}
use Rattle.std.proofs.lemmas.Grind.{get_or_default_zero}
use Rattle.list_laws.proofs.Cited.{and_not_from}
use Rattle.point_order.specs.Coordinates.{IsKey}
use Rattle.point_order.specs.Orientation.{is_flat, is_collinear}
use Rattle.point_order.specs.Solid.{is_solid}
use Rattle.edit_history.specs.Opening.{next_place, opening_four, FourPlaces}
use Rattle.edit_history.specs.PassedOver.{is_kept, kept, four_but}
use Rattle.std.specs.Result.{result_ok}
use Rattle.edit_history.specs.OneThread.{places}
use Rattle.edit_history.specs.Laws.{AreIndependent, OpeningLaw, FourLaw}
use Rattle.edit_history.proofs.Places.{IsFirst, IsNowhere, next_is, position_shift}
use Rattle.edit_history.proofs.OpeningLaws.{is_other, empty_flat, one_before, one_flat, line_before, line_flat}
use Rattle.edit_history.proofs.OpeningLaws.{plane_before, plane_flat, four_solid}

-- ---- the stages of the search

-- the place of the next kept point that differs from the first
abbrev second_of : Option ℕ → List ℕ → ℕ → Option ℕ
second_of absent s i = next_place (λ b. is_kept absent b && not (b == slice_index s i)) i s

-- the place of the next one off the line of the two
abbrev third_of : Option ℕ → List ℕ → ℕ → ℕ → Option ℕ
third_of absent s i j =
    next_place (λ c. is_kept absent c && not (is_collinear (slice_index s i) (slice_index s j) c)) j s

-- the place of the next one off the plane of the three
abbrev fourth_of : Option ℕ → List ℕ → ℕ → ℕ → ℕ → Option ℕ
fourth_of absent s i j k =
    next_place (λ d. is_kept absent d && not (is_flat (slice_index s i) (slice_index s j) (slice_index s k) d)) k s

-- four places as one value
abbrev four : ℕ → ℕ → ℕ → ℕ → FourPlaces
four i j k l = record { first = i; second = j; third = k; fourth = l }

-- the four of the search, where three places are found
abbrev from_third : Option ℕ → List ℕ → ℕ → ℕ → ℕ → Option FourPlaces
from_third absent s i j k = option_map (four i j k) (fourth_of absent s i j k)

-- where two are found
abbrev from_second : Option ℕ → List ℕ → ℕ → ℕ → Option FourPlaces
from_second absent s i j = option_and_then (from_third absent s i j) (third_of absent s i j)

-- where one is found
abbrev from_first : Option ℕ → List ℕ → ℕ → Option FourPlaces
from_first absent s i = option_and_then (from_second absent s i) (second_of absent s i)

-- the first two points that the search finds are keys
abbrev pub AreKeysFound : Option ℕ → List ℕ → Type 0
AreKeysFound absent s =
    IfSome (position_from (is_kept absent) 0 s) (λ i. IfSome (second_of absent s i)
    (λ j. IsKey (slice_index s i) × IsKey (slice_index s j)))

-- ---- the search finds four points exactly where those that are kept are solid

-- the search finds four points exactly where the points that are kept are solid
pub four_but_solid : (absent : Option ℕ) (s : List ℕ) → AreKeysFound absent s → is_some (four_but absent s)
    ≡ is_solid (kept absent s)
four_but_solid absent s keys = first (position_from (is_kept absent) 0 s) (next_is (is_kept absent) 0 s) keys
  where
    fourth : (i : ℕ) (f : IsFirst (is_kept absent) 0 s i) (j : ℕ)
        (g : IsFirst (λ b. is_kept absent b && not (b == slice_index s i)) (i + 1) s j) (k : ℕ)
        (h : IsFirst (λ c. is_kept absent c && not (is_collinear (slice_index s i) (slice_index s j) c)) (j + 1) s k)
        → (o : Option ℕ) → MatchOption o (IsNowhere (λ d. is_kept absent d
        && not (is_flat (slice_index s i) (slice_index s j) (slice_index s k) d)) (k + 1) s)
        (IsFirst (λ d. is_kept absent d && not (is_flat (slice_index s i) (slice_index s j) (slice_index s k) d))
        (k + 1) s)
        → is_some (option_map (four i j k) o) ≡ is_solid (kept absent s)
    fourth i f j g k h None n =
        sym (plane_flat absent s i f j g k h (plane_before absent s i f j g k h (length s) (omega arith) n))
    fourth i f j g k h (Some l) e = sym (four_solid absent s i f j g k h l e)

    third : (i : ℕ) (f : IsFirst (is_kept absent) 0 s i) (j : ℕ)
        (g : IsFirst (λ b. is_kept absent b && not (b == slice_index s i)) (i + 1) s j)
        → IsKey (slice_index s i) × IsKey (slice_index s j)
        → (o : Option ℕ) → MatchOption o (IsNowhere (λ c. is_kept absent c
        && not (is_collinear (slice_index s i) (slice_index s j) c)) (j + 1) s)
        (IsFirst (λ c. is_kept absent c && not (is_collinear (slice_index s i) (slice_index s j) c)) (j + 1) s)
        → is_some (option_and_then (from_third absent s i j) o) ≡ is_solid (kept absent s)
    third i f j g keys None n =
        sym (line_flat absent s i f j g keys.0 keys.1 (line_before absent s i f j g (length s) (omega arith) n))
    third i f j g keys (Some k) h =
        fourth i f j g k h (fourth_of absent s i j k) (next_is (λ d. is_kept absent d
        && not (is_flat (slice_index s i) (slice_index s j) (slice_index s k) d)) (k + 1) s)

    second : (i : ℕ) (f : IsFirst (is_kept absent) 0 s i)
        → (o : Option ℕ) → MatchOption o (IsNowhere (λ b. is_kept absent b && not (b == slice_index s i)) (i + 1) s)
        (IsFirst (λ b. is_kept absent b && not (b == slice_index s i)) (i + 1) s)
        → IfSome o (λ j. IsKey (slice_index s i) × IsKey (slice_index s j))
        → is_some (option_and_then (from_second absent s i) o) ≡ is_solid (kept absent s)
    second i f None n keys = sym (one_flat absent s i f (one_before absent s i f (length s) (omega arith) n))
    second i f (Some j) g keys =
        third i f j g keys (third_of absent s i j) (next_is (λ c. is_kept absent c
        && not (is_collinear (slice_index s i) (slice_index s j) c)) (j + 1) s)

    first : (o : Option ℕ) → MatchOption o (IsNowhere (is_kept absent) 0 s) (IsFirst (is_kept absent) 0 s)
        → IfSome o (λ i. IfSome (second_of absent s i) (λ j. IsKey (slice_index s i) × IsKey (slice_index s j)))
        → is_some (option_and_then (from_first absent s) o) ≡ is_solid (kept absent s)
    first None n keys = sym (empty_flat absent s n)
    first (Some i) f keys =
        second i f (second_of absent s i) (next_is (λ b. is_kept absent b && not (b == slice_index s i)) (i + 1) s) keys

-- ---- nothing is passed over

-- where nothing is passed over all points are kept
kept_none : (s : List ℕ) → kept None s ≡ s
kept_none [] = refl
kept_none (x ∷ s) = ap (λ (t : List ℕ). x ∷ t) (kept_none s)

-- and the search is that of the opening four
pub four_but_none : (s : List ℕ) → four_but None s ≡ opening_four s
four_but_none [] = refl
four_but_none (x ∷ s) = refl

-- points have an opening four exactly where they are solid, if the first two that are found are keys
pub solid_none : (s : List ℕ) → AreKeysFound None s → is_some (opening_four s) ≡ is_solid s
solid_none s keys = ap is_some (sym (four_but_none s)) ∙ four_but_solid None s keys ∙ ap is_solid (kept_none s)

-- where all points are keys, so are the first two
pub keys_all : (absent : Option ℕ) (s : List ℕ) → All IsKey s → AreKeysFound absent s
keys_all absent s h = first (position_from (is_kept absent) 0 s) (next_is (is_kept absent) 0 s)
  where
    second : (i : ℕ) → i < length s → (o : Option ℕ) → MatchOption o
        (IsNowhere (λ b. is_kept absent b && not (b == slice_index s i)) (i + 1) s)
        (IsFirst (λ b. is_kept absent b && not (b == slice_index s i)) (i + 1) s)
        → IfSome o (λ j. IsKey (slice_index s i) × IsKey (slice_index s j))
    second i w None n = tt
    second i w (Some j) g = (h i 0 w, h j 0 g.within)

    first : (o : Option ℕ) → MatchOption o (IsNowhere (is_kept absent) 0 s) (IsFirst (is_kept absent) 0 s)
        → IfSome o (λ i. IfSome (second_of absent s i) (λ j. IsKey (slice_index s i) × IsKey (slice_index s j)))
    first None n = tt
    first (Some i) f =
        second i f.within (second_of absent s i) (next_is (λ b. is_kept absent b && not (b == slice_index s i))
        (i + 1) s)

-- points that are keys have an opening four exactly where they are solid
pub opening_law : OpeningLaw
opening_law s h = solid_none s (keys_all None s h)

-- ---- the search by code, which looks for each point in what is left of the list

-- what the search has answered
pub record Answers (absent : Option ℕ) (s : List ℕ) (answer : Option FourPlaces) : Type 0 where
  pub four : four_but absent s ≡ answer
  pub solid : is_some answer ≡ is_solid (kept absent s)

-- the answer of the search has a value exactly where the points that are kept are solid
answers : (absent : Option ℕ) (s : List ℕ) (answer : Option FourPlaces) → AreKeysFound absent s →
    four_but absent s ≡ answer →
    Answers absent s answer
answers absent s answer keys e = record { four = e; solid = sym (ap is_some e) ∙ four_but_solid absent s keys }

-- the answer of a search in what is left
next_from : (test : ℕ → Bool) (i : ℕ) (s : List ℕ) (o : Option ℕ) → position_from test 0 (drop (i + 1) s) ≡ o →
    next_place test i s ≡ option_map (λ n. i + 1 + n) o
next_from test i s o e = position_shift test (i + 1) (drop (i + 1) s) ∙ ap (option_map (λ n. i + 1 + n)) e

module _ (absent : Option ℕ) (s : List ℕ) where
  -- no point is kept: the search answers none
  pub no_first : position_from (is_kept absent) 0 s ≡ None → Answers absent s None
  no_first e = answers absent s None (rw e tt) (rw e refl)

  module _ (i : ℕ) (first : position_from (is_kept absent) 0 s ≡ Some i) where
    -- no kept point differs from the first: the search answers none
    pub no_second : position_from (λ b. is_kept absent b && not (b == slice_index s i)) 0 (drop (i + 1) s) ≡ None →
        Answers absent s None
    no_second e =
        let f = next_from (λ b. is_kept absent b && not (b == slice_index s i)) i s None e in
        answers absent s None (rw (first, f) tt) (rw (first, f) refl)

    module _ (m : ℕ) (second : position_from (λ b. is_kept absent b && not (b == slice_index s i)) 0 (drop (i + 1) s)
        ≡ Some m) (key_a : IsKey (slice_index s i)) (key_b : IsKey (slice_index s (i + 1 + m))) where
      -- the place of the second point
      abbrev j : ℕ
      j = i + 1 + m

      -- no kept point is off the line of the two: the search answers none
      pub no_third : position_from (λ c. is_kept absent c && not (is_collinear (slice_index s i) (slice_index s j) c)) 0
          (drop (j + 1) s) ≡ None → Answers absent s None
      no_third e =
          let f = next_from (λ b. is_kept absent b && not (b == slice_index s i)) i s (Some m) second in
          let g = next_from (λ c. is_kept absent c && not (is_collinear (slice_index s i) (slice_index s j) c)) j s None
          e in
          answers absent s None (rw (first, f) (key_a, key_b)) (rw (first, f, g) refl)

      module _ (n : ℕ) (third : position_from (λ c. is_kept absent c
          && not (is_collinear (slice_index s i) (slice_index s j) c)) 0 (drop (j + 1) s) ≡ Some n) where
        -- the place of the third point
        abbrev k : ℕ
        k = j + 1 + n

        -- the four, by where the last search found a point behind place k
        abbrev answer : Option ℕ → Option FourPlaces
        answer o = option_map (four i j k) (option_map (λ l. k + 1 + l) o)

        -- what the last search finds is the answer
        pub at_fourth : (o : Option ℕ) → position_from (λ d. is_kept absent d
            && not (is_flat (slice_index s i) (slice_index s j) (slice_index s k) d)) 0 (drop (k + 1) s) ≡ o →
            Answers absent s (answer o)
        at_fourth o e =
            let f = next_from (λ b. is_kept absent b && not (b == slice_index s i)) i s (Some m) second in
            let g = next_from (λ c. is_kept absent c && not (is_collinear (slice_index s i) (slice_index s j) c)) j s
            (Some n) third in
            let h = next_from (λ d. is_kept absent d && not (is_flat (slice_index s i) (slice_index s j)
            (slice_index s k) d)) k s o e in
            answers absent s (answer o) (rw (first, f) (key_a, key_b)) (rw (first, f, g, h) refl)

-- ---- what the code reads

-- the element that an index reads
pub read_is : (s : List ℕ) (i a : ℕ) → i < length s → a ≡ slice_index_or s i a → a ≡ slice_index s i
read_is s i a h e = e ∙ get_or_default_zero s i a h

-- the code's search for the second point, which knows the first by its value, is that of the definition
pub second_found : (absent : Option ℕ) (s : List ℕ) (i a : ℕ) (o : Option ℕ) → a ≡ slice_index s i →
    o ≡ position_from (λ b. is_kept absent b && not (b == a)) 0 (take (length s - (i + 1)) (drop (i + 1) s))
    → position_from (λ b. is_kept absent b && not (b == slice_index s i)) 0 (drop (i + 1) s) ≡ o
second_found absent s i a o ea e = sym (e ∙ rw (take_rest s (i + 1), ea) refl)

-- so is the search for the third point
pub third_found : (absent : Option ℕ) (s : List ℕ) (i j a b : ℕ) (o : Option ℕ) → a ≡ slice_index s i →
    b ≡ slice_index s j → o ≡ position_from (λ c. is_kept absent c && not (is_collinear a b c)) 0
    (take (length s - (j + 1)) (drop (j + 1) s))
    → position_from (λ c. is_kept absent c && not (is_collinear (slice_index s i) (slice_index s j) c)) 0
    (drop (j + 1) s) ≡ o
third_found absent s i j a b o ea eb e = sym (e ∙ rw (take_rest s (j + 1), ea, eb) refl)

-- and for the fourth
pub fourth_found : (absent : Option ℕ) (s : List ℕ) (i j k a b c : ℕ) (o : Option ℕ) → a ≡ slice_index s i →
    b ≡ slice_index s j → c ≡ slice_index s k → o ≡ position_from (λ d. is_kept absent d && not (is_flat a b c d)) 0
    (take (length s - (k + 1)) (drop (k + 1) s))
    → position_from (λ d. is_kept absent d && not (is_flat (slice_index s i) (slice_index s j) (slice_index s k) d)) 0
    (drop (k + 1) s) ≡ o
fourth_found absent s i j k a b c o ea eb ec e = sym (e ∙ rw (take_rest s (k + 1), ea, eb, ec) refl)

-- ---- the answer as a result

-- there are no four where there are no places of them
map_none : (o : Option FourPlaces) → option_map places o ≡ None → o ≡ None
map_none None e = refl
map_none (Some f) e = cc

module _ {E : Type 0} (s : List ℕ) (o : Option (List ℕ)) (four_is : o ≡ option_map places (opening_four s))
    (solid_is : is_some o ≡ is_solid s) where
  -- an Ok has the places of the opening four
  pub found_of : (r : Result (List ℕ) E) → o ≡ result_ok r → IfOk r
      (λ four. option_map places (opening_four s) ≡ Some four)
  found_of (Ok f) e = sym four_is ∙ e
  found_of (Err x) e = tt

  -- an Err comes exactly where there is no opening four
  pub none_of : (r : Result (List ℕ) E) → o ≡ result_ok r → (IsErr r → opening_four s ≡ None)
      × (opening_four s ≡ None → IsErr r)
  none_of (Ok f) e = (λ h. cc, λ h. let g = ap (option_map places) h in cc)
  none_of (Err x) e = (λ h. map_none (opening_four s) (sym four_is ∙ e), λ h. refl)

  -- an Err comes exactly where the points are not solid
  pub refused_of : (r : Result (List ℕ) E) → o ≡ result_ok r → (IsErr r → is_solid s ≡ false)
      × (is_solid s ≡ false → IsErr r)
  refused_of (Ok f) e = (λ h. cc, λ h. let g = ap is_some e in cc)
  refused_of (Err x) e = (λ h. sym solid_is ∙ ap is_some e, λ h. refl)

-- the answer of the search that passes over nothing is that of the opening four
pub four_none : (s : List ℕ) (o : Option (List ℕ)) → o ≡ option_map places (four_but None s) →
    o ≡ option_map places (opening_four s)
four_none s o e = e ∙ ap (option_map places) (four_but_none s)

-- and it has a value exactly where the points are solid
pub solid_kept_none : (s : List ℕ) (o : Option (List ℕ)) → is_some o ≡ is_solid (kept None s) → is_some o ≡ is_solid s
solid_kept_none s o e = e ∙ ap is_solid (kept_none s)

-- ---- the four that are found, and their places

module _ (s : List ℕ) where
  -- the four are independent, each at its first place, once three of them are found
  four_fourth : (i : ℕ) (f : IsFirst (is_kept None) 0 s i) (j : ℕ)
      (g : IsFirst (λ b. is_kept None b && not (b == slice_index s i)) (i + 1) s j) (k : ℕ)
      (h : IsFirst (λ c. is_kept None c && not (is_collinear (slice_index s i) (slice_index s j) c)) (j + 1) s k)
      → (o : Option ℕ) → MatchOption o (IsNowhere (λ d. is_kept None d
      && not (is_flat (slice_index s i) (slice_index s j) (slice_index s k) d)) (k + 1) s)
      (IsFirst (λ d. is_kept None d && not (is_flat (slice_index s i) (slice_index s j) (slice_index s k) d)) (k + 1) s)
      → IfSome (option_map (four i j k) o) (AreIndependent s)
  four_fourth i f j g k h None n = tt
  four_fourth i f j g k h (Some l) e =
      record {
        ascending = (omega (arith, g.from), omega (arith, h.from), omega (arith, e.from));
        within = e.within;
        independent = off;
        first_places = (
          λ m w q. let x = f.before m (omega arith) w in cc,
          λ m w q. let x = one_before None s i f j (omega (arith, g.within)) g.before m w refl in apart (sym x ∙ q),
          λ m w q. let x =
              line_before None s i f j g k (omega (arith, h.within)) h.before m w refl in let y =
              ap (is_collinear (slice_index s i) (slice_index s j)) q in cc,
          λ m w q. let x =
              plane_before None s i f j g k h l (omega (arith, e.within)) e.before m w refl in let y =
              ap (is_flat (slice_index s i) (slice_index s j) (slice_index s k)) q in cc,
        );
      }
    where
      apart : slice_index s i ≢ slice_index s j
      apart =
          is_other (slice_index s i) (slice_index s j) (and_not_from true (slice_index s j == slice_index s i)
          g.passes).1

      off : is_flat (slice_index s i) (slice_index s j) (slice_index s k) (slice_index s l) ≡ false
      off =
          (and_not_from true (is_flat (slice_index s i) (slice_index s j) (slice_index s k) (slice_index s l))
          e.passes).1

  -- once two are found
  four_third : (i : ℕ) (f : IsFirst (is_kept None) 0 s i) (j : ℕ)
      (g : IsFirst (λ b. is_kept None b && not (b == slice_index s i)) (i + 1) s j)
      → (o : Option ℕ) → MatchOption o (IsNowhere (λ c. is_kept None c
      && not (is_collinear (slice_index s i) (slice_index s j) c)) (j + 1) s)
      (IsFirst (λ c. is_kept None c && not (is_collinear (slice_index s i) (slice_index s j) c)) (j + 1) s)
      → IfSome (option_and_then (from_third None s i j) o) (AreIndependent s)
  four_third i f j g None n = tt
  four_third i f j g (Some k) h =
      four_fourth i f j g k h (fourth_of None s i j k) (next_is
      (λ d. is_kept None d && not (is_flat (slice_index s i) (slice_index s j) (slice_index s k) d)) (k + 1) s)

  -- once one is found
  four_second : (i : ℕ) (f : IsFirst (is_kept None) 0 s i)
      → (o : Option ℕ) → MatchOption o (IsNowhere (λ b. is_kept None b && not (b == slice_index s i)) (i + 1) s)
      (IsFirst (λ b. is_kept None b && not (b == slice_index s i)) (i + 1) s)
      → IfSome (option_and_then (from_second None s i) o) (AreIndependent s)
  four_second i f None n = tt
  four_second i f (Some j) g =
      four_third i f j g (third_of None s i j) (next_is (λ c. is_kept None c
      && not (is_collinear (slice_index s i) (slice_index s j) c)) (j + 1) s)

  -- from the first search on
  four_first : (o : Option ℕ) → MatchOption o (IsNowhere (is_kept None) 0 s) (IsFirst (is_kept None) 0 s) →
      IfSome (option_and_then (from_first None s) o) (AreIndependent s)
  four_first None n = tt
  four_first (Some i) f =
      four_second i f (second_of None s i) (next_is (λ b. is_kept None b && not (b == slice_index s i)) (i + 1) s)

-- the opening four are independent points, each at the first place of its point
pub four_law : FourLaw
four_law s =
    subst (λ (o : Option FourPlaces). IfSome o (AreIndependent s)) (four_but_none s)
    (four_first s (position_from (is_kept None) 0 s) (next_is (is_kept None) 0 s))
