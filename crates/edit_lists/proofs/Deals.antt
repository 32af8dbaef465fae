-- Lines that are dealt one by one.
use Rattle.std.specs.Prelude.{◌≡◌, ◌≢◌, ℕ, zero, suc, ◌+◌, ◌%◌, ◌<◌, Bool, true, false, cond, not, ◌==◌, List, [], ◌∷◌}
use Rattle.std.specs.Prelude.{◌++◌, map, length, take, set, slice_index_or, slice_get, Option, None, Some, replicate}
use Rattle.std.specs.List.{enumerate_from, range_with_len}
use Rattle.std.specs.Option.{option_map}
use Rattle.std.proofs.Common.{refl, sym, ◌∙◌, ap, arith}
use Rattle.std.proofs.Math.Nat.{mod-lt}
use Rattle.std.proofs.lemmas.List.{length-map, map-set, get_or-map, append-nil}
use Rattle.std.proofs.lemmas.List.Elements.{filter-append}
use Rattle.std.proofs.lemmas.List.FromFn.{length-range_with_len, get_or-map-range_with_len}
use Rattle.std.proofs.lemmas.Bool.{ne_eqb}
use Rattle.list_laws.proofs.Cited.{eq_same, map_but_one, one_value}
use Rattle.point_order.specs.Sets.{is_among}
use Rattle.edit_history.specs.declared.history.Edit.{Edit}
use Rattle.edit_history.specs.Edits.{point_of}
use Rattle.edit_history.specs.Opening.{opening_four, FourPlaces}
use Rattle.edit_history.specs.OneThread.{places}
use Rattle.plain_laws.specs.Running.{Pair, dealt_to, dealt_out, other_lines}
use Rattle.edit_lists.specs.Dealing.{with_pair, AreOpening}

-- the places of an opening four that was found
pub are_opening : (points four : List ℕ) → option_map places (opening_four points) ≡ Some four → AreOpening points four
are_opening points four e = by (opening_four points) refl e
  where
    by : (o : Option FourPlaces) → opening_four points ≡ o → option_map places o ≡ Some four → AreOpening points four
    by None f e = absurd (cc e)
    by (Some f) g e = (f, g, sym (one_value (places f) four e))

-- ---- a pair put last

-- in a list of lists that are seen as lists of pairs
pub put_last_is : {A : Type 0} (f : A → List Pair) (xs : List A) (k : ℕ) (old new : A) (pair : Pair) →
    k < length xs → k ≡ point_of pair.1 % length xs → old ≡ slice_index_or xs k old → f new ≡ f old ++ pair ∷ [] →
    map f (set xs k new) ≡ with_pair pair (map f xs)
put_last_is f xs k old new pair l e o n =
    let worker = e ∙ ap (λ (c : ℕ). point_of pair.1 % c) (sym (length-map xs f)) in
    let there = get_or-map f xs k old [] l ∙ ap f (sym o) in
    map-set f xs k new ∙ ap (set (map f xs) k) (n ∙ ap (λ (t : List Pair). t ++ pair ∷ []) (sym there))
    ∙ ap (λ (w : ℕ). set (map f xs) w (slice_index_or (map f xs) w [] ++ pair ∷ [])) worker

-- ---- one more line

module _ (n : ℕ) (lines : List Pair) (line : Pair) where
  -- with a line more a worker's list has that line last, if it is the worker's
  more_is : (i : ℕ) →
      dealt_to n (lines ++ line ∷ []) i ≡ dealt_to n lines i ++ cond (point_of line.1 % n == i) (line ∷ []) []
  more_is i = filter-append (λ (l : Pair). point_of l.1 % n == i) lines (line ∷ [])

  -- where it is not, the list is as before
  nothing_more : (b : Bool) → b ≡ false → (l : List Pair) → l ++ cond b (line ∷ []) [] ≡ l
  nothing_more b e l = ap (λ (b : Bool). l ++ cond b (line ∷ []) []) e ∙ append-nil l

  -- where it is, the list has the line last
  one_more : (b : Bool) → b ≡ true → (l : List Pair) → l ++ cond b (line ∷ []) [] ≡ l ++ line ∷ []
  one_more b e l = ap (λ (b : Bool). l ++ cond b (line ∷ []) []) e

  -- the list of its worker has it last
  pub dealt_more : 0 < n → dealt_out n (lines ++ line ∷ []) ≡ with_pair line (dealt_out n lines)
  dealt_more some =
      let f = dealt_to n lines in
      let g = dealt_to n (lines ++ line ∷ []) in
      let w = point_of line.1 % n in
      let below : w < n = mod-lt (point_of line.1) some in
      let from_0 : 0 + w ≡ w = omega arith in
      let count = length-map (range_with_len 0 n) f ∙ length-range_with_len 0 n in
      let there = get_or-map-range_with_len f 0 n w w [] below from_0 in
      let value : g (0 + w) ≡ slice_index_or (dealt_out n lines) w [] ++ line ∷ [] =
      ap g from_0 ∙ more_is w ∙ one_more (w == w) (eq_same w) (f w)
      ∙ ap (λ (t : List Pair). t ++ line ∷ []) (sym there) in
      let others : (i : ℕ) → i ≢ 0 + w → g i ≡ f i =
      λ i d. more_is i ∙ nothing_more (w == i) (ne_eqb w i (λ q. d (sym q ∙ sym from_0))) (f i) in
      map_but_one f g 0 n w (slice_index_or (dealt_out n lines) w [] ++ line ∷ []) below value others
      ∙ ap (λ (c : ℕ). set (dealt_out n lines) (point_of line.1 % c)
      (slice_index_or (dealt_out n lines) (point_of line.1 % c) [] ++ line ∷ [])) (sym count)

-- no line yet: the lists are empty
pub dealt_nothing : (n : ℕ) → dealt_out n [] ≡ replicate n []
dealt_nothing n = empty 0 n
  where
    empty : (a m : ℕ) → map (dealt_to n []) (range_with_len a m) ≡ replicate m []
    empty a zero = refl
    empty a (suc m) = ap (λ (t : List (List Pair)). [] ∷ t) (empty (a + 1) m)

-- there is a list for each worker
pub dealt_count : (n : ℕ) (lines : List Pair) → length (dealt_out n lines) ≡ n
dealt_count n lines = length-map (range_with_len 0 n) (dealt_to n lines) ∙ length-range_with_len 0 n

-- ---- the lines in front of a place

-- the lines in front of the next place are those in front of this, and the line here
pub lines_more : (lines : List Edit) (n : ℕ) (d : Edit) → slice_get lines n ≡ Some d →
    take (n + 1) (enumerate_from 0 lines) ≡ take n (enumerate_from 0 lines) ++ (n, d) ∷ []
lines_more lines n d e =
    ap (λ (k : ℕ). take k (enumerate_from 0 lines)) (up n) ∙ next 0 lines n d e
    ∙ ap (λ (k : ℕ). take n (enumerate_from 0 lines) ++ (k, d) ∷ []) (from_0 n)
  where
    up : (n : ℕ) → n + 1 ≡ suc n
    up n = omega arith

    from_0 : (n : ℕ) → 0 + n ≡ n
    from_0 n = omega arith

    further : (m n : ℕ) → m + 1 + n ≡ m + suc n
    further m n = omega arith

    none : (m : ℕ) → m ≡ m + 0
    none m = omega arith

    next : (m : ℕ) (lines : List Edit) (n : ℕ) (d : Edit) → slice_get lines n ≡ Some d →
        take (suc n) (enumerate_from m lines) ≡ take n (enumerate_from m lines) ++ (m + n, d) ∷ []
    next m [] n d e = absurd (cc e)
    next m (x ∷ lines) zero d e = let v = one_value x d e in let k = none m in λ i. (k i, v i) ∷ []
    next m (x ∷ lines) (suc n) d e =
        ap (λ (t : List Pair). (m, x) ∷ t) (next (m + 1) lines n d e
        ∙ ap (λ (k : ℕ). take n (enumerate_from (m + 1) lines) ++ (k, d) ∷ []) (further m n))

-- the next line, and whether it is of the four
module _ (four : List ℕ) (lines : List Edit) (tag : ℕ) (edit : Edit) (there : slice_get lines tag ≡ Some edit) where
  -- of the lines but the four those in front of the next place have this line last, if it is none of the four
  next_is : other_lines four (take (tag + 1) (enumerate_from 0 lines)) ≡
      other_lines four (take tag (enumerate_from 0 lines)) ++ cond (not (is_among tag four)) ((tag, edit) ∷ []) []
  next_is =
      ap (other_lines four) (lines_more lines tag edit there)
      ∙ filter-append (λ (line : Pair). not (is_among line.0 four)) (take tag (enumerate_from 0 lines))
      ((tag, edit) ∷ [])

  -- it is not: it comes next
  pub next_comes : is_among tag four ≡ false →
      other_lines four (take (tag + 1) (enumerate_from 0 lines)) ≡
      other_lines four (take tag (enumerate_from 0 lines)) ++ (tag, edit) ∷ []
  next_comes a =
      next_is ∙ ap (λ (b : Bool). other_lines four (take tag (enumerate_from 0 lines)) ++
      cond (not b) ((tag, edit) ∷ []) []) a

  -- it is: nothing comes
  next_passed : is_among tag four ≡ true →
      other_lines four (take (tag + 1) (enumerate_from 0 lines)) ≡ other_lines four (take tag (enumerate_from 0 lines))
  next_passed a =
      next_is ∙ ap (λ (b : Bool). other_lines four (take tag (enumerate_from 0 lines)) ++
      cond (not b) ((tag, edit) ∷ []) []) a ∙ append-nil (other_lines four (take tag (enumerate_from 0 lines)))

-- a line of the four, at some place of the file
pub passed_by : (four : List ℕ) (lines : List Edit) (tag : ℕ) → tag < length lines → is_among tag four ≡ true →
    other_lines four (take (tag + 1) (enumerate_from 0 lines)) ≡ other_lines four (take tag (enumerate_from 0 lines))
passed_by four lines tag l a = let some = one lines tag l in next_passed four lines tag some.0 some.1 a
  where
    one : (lines : List Edit) (k : ℕ) → k < length lines → (d : Edit) × (slice_get lines k ≡ Some d)
    one [] k l = absurd (omega (arith, l))
    one (x ∷ lines) zero l = (x, refl)
    one (x ∷ lines) (suc k) l = one lines k (omega (arith, l))
