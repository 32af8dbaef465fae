-- Runs of the edit lines, behind the history of one thread of the points.
use Rattle.std.specs.Prelude.{◌≡◌, ℕ, ◌+◌, ◌<◌, ◌≤◌, ◌⊎◌, Bool, true, false, not, List, [], ◌∷◌, ◌++◌, map, length}
use Rattle.std.specs.Prelude.{take, Option, Some, IfSome, IsPermutation}
use Rattle.std.specs.List.{enumerate_from, filter, flat_map}
use Rattle.std.proofs.Common.{refl, sym, ◌∙◌, ap, subst, inl, inr, arith, append-nil}
use Rattle.std.proofs.lemmas.List.{length-map, take-map, map-append, append_assoc}
use Rattle.std.proofs.lemmas.List.Elements.{filter-append}
use Rattle.std.proofs.lemmas.List.Sorted.{IsPermutation-append, IsPermutation-sym}
use Rattle.list_laws.proofs.Cited.{EachLater, IsLower, all_of_each, all_pass, among_from, each_of_all, from_append}
use Rattle.list_laws.proofs.Cited.{in_permutation, later_append, later_pairs, mapped_true, none_pass, numbered_below}
use Rattle.list_laws.proofs.Cited.{numbered_from, numbered_lower, pairs_later, same_filter}
use Rattle.point_order.specs.Sets.{IsIn, is_among}
use Rattle.edit_history.specs.declared.history.Edit.{Edit}
use Rattle.edit_history.specs.declared.history.Edit.TheVariants.{Add}
use Rattle.edit_history.specs.declared.history.Entry.{Entry}
use Rattle.edit_history.specs.Histories.{IsLegal, entries_from}
use Rattle.edit_history.specs.Laws.{AreIndependent}
use Rattle.edit_history.specs.Opening.{opening_four, FourPlaces}
use Rattle.edit_history.specs.OneThread.{Keeps, line_of, lines_of_one_thread, one_thread, opening_first, places}
use Rattle.edit_history.specs.OneThread.{tagged_lines}
use Rattle.edit_history.proofs.Cited.{entry_lines, four_law, keeps_law}
use Rattle.plain_laws.specs.Running.{AreRuns, Pair, RunBehindAlone, RunBehindKeeps, dealt_lines, edit_lines, segments}
use Rattle.plain_laws.proofs.Runs.{AreKept, InOrder, alone_lines, all_kept, entry_by, legal_is, opening_is, tags_of}
use Rattle.plain_laws.proofs.Segments.{segments_keep}

-- two lists that are numbered as one: the second goes on where the first ends
numbered_append : {X : Type 0} (n : ℕ) (xs ys : List X) → enumerate_from n (xs ++ ys) ≡ enumerate_from n xs
    ++ enumerate_from (n + length xs) ys
numbered_append {X} n [] ys = ap (λ (k : ℕ). enumerate_from k ys) (let e : n ≡ n + 0 = omega arith in e)
numbered_append {X} n (x ∷ xs) ys =
    ap (λ (l : List (ℕ × X)). (n, x) ∷ l) (numbered_append (n + 1) xs ys
    ∙ ap (λ (k : ℕ). enumerate_from (n + 1) xs ++ enumerate_from k ys)
    (let e : n + 1 + length xs ≡ n + length (x ∷ xs) = omega arith in e))

module _ (points : List ℕ) (edits : List Edit) (four : FourPlaces) (found : opening_four points ≡ Some four) where
  -- the history of one thread of the points
  abbrev front : List Entry
  front = one_thread points []

  -- the lines of the points
  abbrev point_lines : List Pair
  point_lines = tagged_lines points []

  -- the lines of the edits, numbered behind those
  abbrev behind : List Pair
  behind = edit_lines points edits

  -- the line is one of the opening four
  opens : Pair → Bool
  opens line = is_among line.0 (places four)

  -- the lines of a file are those of its points, and then those of its edits
  lines_are : tagged_lines points edits ≡ point_lines ++ behind
  lines_are =
      numbered_append 0 (map Add points) edits
      ∙ (λ i. enumerate_from 0 (sym (append-nil (map Add points)) i) ++ enumerate_from (at i) edits)
    where
      at : 0 + length (map Add points) ≡ length points
      at = (let e = length-map points Add in omega (arith, e))

  -- the front keeps the file that has the points alone, for one worker
  kept_front : Keeps points [] 1 front
  kept_front = by (opening_four points) found (keeps_law points [])
    where
      by : (o : Option FourPlaces) → o ≡ Some four → IfSome o (λ _. Keeps points [] 1 front) → Keeps points [] 1 front
      by o e k = subst (λ (o : Option FourPlaces). IfSome o (λ _. Keeps points [] 1 front)) e k

  -- the front has the lines of the points, the opening four first
  front_is : front ≡ entries_from 0 [] (opening_first four point_lines)
  front_is = ap (λ (o : Option FourPlaces). entries_from 0 [] (lines_of_one_thread o point_lines)) found

  -- so these are the lines of its entries
  front_lines : map line_of front ≡ opening_first four point_lines
  front_lines = ap (map line_of) front_is ∙ entry_lines 0 [] (opening_first four point_lines)

  -- their tags are below those of the edit lines
  below : (d : Entry) → IsIn d front → d.tag < length points
  below d i =
      let line = in_permutation (map line_of front) point_lines (line_of d)
      (IsPermutation-sym point_lines (map line_of front) kept_front.lines) (mapped_true line_of d front i) in
      let b = numbered_below 0 (map Add points ++ []) (line_of d) line in
      let e = ap length (append-nil (map Add points)) ∙ length-map points Add in
      omega (arith, b, e)

  -- its entries are by 0
  by_none : (d : Entry) → IsIn d front → d.by ≡ 0
  by_none d i = entry_by 0 [] (opening_first four point_lines) d (subst (IsIn d) front_is i)

  module _ (workers : ℕ) (some : 0 < workers) (run : List Entry) (is_run : AreRuns (dealt_lines workers behind) run)
    where
      -- a run of the edit lines has all of them, by the workers, those that share a point by their tags
      kept : AreKept behind workers run
      kept =
          subst (λ (l : List Pair). AreKept l workers run) (segments_keep behind)
          (all_kept workers (segments behind) run some
          (subst (EachLater IsLower) (sym (segments_keep behind)) (numbered_lower (length points) edits)) is_run)

      -- its tags are not those of points
      above : (e : Entry) → IsIn e run → length points ≤ e.tag
      above e i =
          numbered_from (length points) edits (line_of e)
          (in_permutation (map line_of run) behind (line_of e) (IsPermutation-sym behind (map line_of run)
          kept.lines_are)
          (mapped_true line_of e run i))

      -- front and run together have each line of the file once
      lines : IsPermutation (tagged_lines points edits) (map line_of (front ++ run))
      lines =
          subst (λ (l : List Pair). IsPermutation l (map line_of (front ++ run))) (sym lines_are)
          (subst (IsPermutation (point_lines ++ behind)) (sym (map-append line_of front run))
          (IsPermutation-append point_lines (map line_of front) behind (map line_of run) kept_front.lines
          kept.lines_are))

      -- of two of their entries that share a point the earlier has the lower tag
      order : EachLater (λ (d e : Entry). InOrder (line_of d) (line_of e)) (front ++ run)
      order =
          later_append (λ (d e : Entry). InOrder (line_of d) (line_of e)) front run
          (pairs_later (λ (d e : Entry). InOrder (line_of d) (line_of e)) front kept_front.order) kept.order
          (λ d e i j s. (let a = below d i in let b = above e j in omega (arith, a, b)))

      -- the first four have the tags of the opening four
      first_four : map (λ (e : Entry). e.tag) (take 4 (front ++ run)) ≡ places four
      first_four =
          sym (take-map (λ (e : Entry). e.tag) 4 (front ++ run))
          ∙ ap (take 4) (tags_of (front ++ run) ∙ ap (map (λ (l : Pair). l.0))
          (map-append line_of front run ∙ ap (λ (l : List Pair). l ++ map line_of run) front_lines))
          ∙ ap (λ (l : List Pair). take 4 (map (λ (x : Pair). x.0)
          ((l ++ filter (λ line. not (is_among line.0 (places four))) point_lines) ++ map line_of run)))
          (opening_is points [] four found)

      -- each entry is by one of the workers
      by_workers : (e : Entry) → IsIn e (front ++ run) → e.by < workers
      by_workers e i = elim (from_append e front run i) [
        | inl j ↦ (let b = by_none e j in omega (arith, b, some))
        | inr j ↦ kept.workers e j
      ]

      -- so front and run keep the file
      pub keeps : Keeps points edits workers (front ++ run)
      keeps = record {
        opening = subst (λ (o : Option FourPlaces). IfSome o (λ four. map (λ e. e.tag) (take 4 (front ++ run))
            ≡ places four))
            (sym found) first_four;
        lines = lines;
        order = later_pairs (λ (d e : Entry). InOrder (line_of d) (line_of e)) (front ++ run) order;
        workers = all_of_each (λ (e : Entry). e.by < workers) (front ++ run) by_workers;
      }

  -- the four are places of points
  independent : AreIndependent points four
  independent = subst (λ (o : Option FourPlaces). IfSome o (AreIndependent points)) found (four_law points)

  -- their places are those of points
  low : (p : ℕ) → IsIn p (places four) → p < length points
  low p (inl e) =
      omega (arith, independent.ascending.0, independent.ascending.1, independent.ascending.2, independent.within, e)
  low p (inr (inl e)) = omega (arith, independent.ascending.1, independent.ascending.2, independent.within, e)
  low p (inr (inr (inl e))) = omega (arith, independent.ascending.2, independent.within, e)
  low p (inr (inr (inr (inl e)))) = omega (arith, independent.within, e)
  low p (inr (inr (inr (inr j)))) = absurd j

  -- no edit line is one of the four
  closed : (line : Pair) → IsIn line behind → is_among line.0 (places four) ≡ false
  closed line i = by (is_among line.0 (places four)) refl
    where
      by : (b : Bool) → is_among line.0 (places four) ≡ b → b ≡ false
      by true e =
          (let l = low line.0 (among_from line.0 (places four) e) in
          let a = numbered_from (length points) edits line i in absurd (omega (arith, l, a)))
      by false e = refl

  -- so none is left of the edit lines where only the four are looked for
  none_open : filter (λ (line : Pair). is_among line.0 (places four)) behind ≡ []
  none_open =
      same_filter (λ (line : Pair). is_among line.0 (places four)) (λ line. false) behind closed
      ∙ none_pass (λ (line : Pair). false) behind (λ line. refl)

  -- and all of them where the others are
  all_closed : filter (λ (line : Pair). not (is_among line.0 (places four))) behind ≡ behind
  all_closed =
      same_filter (λ (line : Pair). not (is_among line.0 (places four))) (λ line. true) behind
      (λ line i. ap not (closed line i))
      ∙ all_pass (λ (line : Pair). true) behind (λ line. refl)

  -- one thread makes the lines of the points, and then those of the edits
  first_lines : opening_first four point_lines ++ behind ≡ opening_first four (tagged_lines points edits)
  first_lines =
      append_assoc (filter (λ (line : Pair). is_among line.0 (places four)) point_lines)
      (filter (λ (line : Pair). not (is_among line.0 (places four))) point_lines) behind
      ∙ (λ i. opened i ++ closing i) ∙ ap (opening_first four) (sym lines_are)
    where
      opened : filter (λ (line : Pair). is_among line.0 (places four)) point_lines
          ≡ filter (λ (line : Pair). is_among line.0 (places four)) (point_lines ++ behind)
      opened =
          sym (filter-append (λ (line : Pair). is_among line.0 (places four)) point_lines behind
          ∙ ap (λ (l : List Pair). filter (λ (line : Pair). is_among line.0 (places four)) point_lines ++ l) none_open
          ∙ append-nil (filter (λ (line : Pair). is_among line.0 (places four)) point_lines))

      closing : filter (λ (line : Pair). not (is_among line.0 (places four))) point_lines ++ behind
          ≡ filter (λ (line : Pair). not (is_among line.0 (places four))) (point_lines ++ behind)
      closing =
          sym (filter-append (λ (line : Pair). not (is_among line.0 (places four))) point_lines behind
          ∙ ap (λ (l : List Pair). filter (λ (line : Pair). not (is_among line.0 (places four))) point_lines ++ l)
          all_closed)

  -- with one worker they are the history of one thread, where they are legal
  pub alone : (run : List Entry) → AreRuns (dealt_lines 1 behind) run → IsLegal (front ++ run) →
      front ++ run ≡ one_thread points edits
  alone run is_run legal =
      legal_is 0 [] (front ++ run) legal (λ e i. (let b = by_workers 1 (omega arith) run is_run e i in
      omega (arith, b)))
      ∙ ap (entries_from 0 []) (map-append line_of front run ∙ (λ i. front_lines i ++ run_lines i) ∙ first_lines)
      ∙ sym (ap (λ (o : Option FourPlaces). entries_from 0 []
      (lines_of_one_thread o (tagged_lines points edits))) found)
    where
      run_lines : map line_of run ≡ behind
      run_lines = alone_lines (segments behind) run is_run ∙ segments_keep behind

-- the history of one thread of the points and then runs of the dealt edit lines keep the file
pub run_behind_keeps : RunBehindKeeps
run_behind_keeps points edits workers four run found some is_run = keeps points edits four found workers some run is_run

-- with one worker they are the history of one thread, where they are legal
pub run_behind_alone : RunBehindAlone
run_behind_alone points edits four run found is_run legal = alone points edits four found run is_run legal
