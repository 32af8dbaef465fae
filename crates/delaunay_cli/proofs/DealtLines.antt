-- The lines that are dealt to workers can be done, and runs of them behind the opening keep the file.
use Rattle.std.proofs.Common.{◌≡◌, refl, sym, ◌∙◌, ap, subst, ℕ, suc, ◌+◌, ◌-◌, ◌%◌, ◌<◌, ◌≤◌, ◌==◌, Bool, true, false}
use Rattle.std.proofs.Common.{cond, List, [], ◌∷◌, ◌++◌, length, map, arith, inl, inr, length-append}
use Rattle.std.specs.Prelude.{not, All, Option, IfSome, slice_index_or, ◌⊎◌}
use Rattle.std.specs.List.{enumerate_from, filter, flat_map, range_with_len}
use Rattle.std.proofs.lemmas.Bool.{eqb-true}
use Rattle.std.proofs.lemmas.List.{length-map}
use Rattle.std.proofs.lemmas.List.FromFn.{get_or-map-range_with_len}
use Rattle.std.proofs.lemmas.List.Sorted.{length_permutation}
use Rattle.list_laws.proofs.Cited.{EachLater, all_of_each, each_of_all, from_append, later_filter, later_left}
use Rattle.list_laws.proofs.Cited.{later_pairs, later_right, mapped_from, numbered_lower, passes}
use Rattle.point_order.specs.Sets.{IsIn, is_among}
use Rattle.edit_history.specs.declared.history.Edit.{Edit}
use Rattle.edit_history.specs.declared.history.Edit.TheVariants.{Add}
use Rattle.edit_history.specs.declared.history.Entry.{Entry}
use Rattle.edit_history.specs.Edits.{point_of}
use Rattle.edit_history.specs.Histories.{IsLegal}
use Rattle.edit_history.specs.Opening.{opening_four, FourPlaces}
use Rattle.edit_history.specs.OneThread.{Keeps, line_of, lines_of_one_thread, one_thread, tagged_lines}
use Rattle.edit_history.proofs.Cited.{keeps_law}
use Rattle.plain_laws.specs.Running.{Pair, AreRuns, IsRun, dealt, dealt_lines, dealt_out, dealt_to, edit_lines}
use Rattle.plain_laws.specs.Running.{other_lines, segments}
use Rattle.plain_laws.proofs.Cited.{alone_in_any_order, dealt_all, run_behind_alone, run_behind_keeps, segments_apart}
use Rattle.plain_laws.proofs.Cited.{segments_keep}
use Rattle.edit_lists.specs.Dealing.{AreTagsAscending, AreOpening, CanBeDone, all_of, count_all}
use Rattle.edit_workers.specs.Running.{AreRun, EndsLate}
use Rattle.edit_workers.proofs.Cited.{done_each, done_runs}
use Rattle.command_pages.specs.Run.{AreDealt}
use Rattle.edit_lists.proofs.Cited.{dealt_count}
use Rattle.plain_laws.proofs.Cited.{entry_by as by_none}

-- ---- what workers can do

-- what holds of each and each later element of all lists holds in each of them
later_within : {X : Type 0} (R : X → X → Type 0) (lists : List (List X)) (l : List X) → IsIn l lists →
    EachLater R (flat_map (λ l. l) lists) → EachLater R l
later_within R [] l i h = absurd i
later_within {X} R (m ∷ lists) l (inl e) h = subst (EachLater R) e (later_left R m (flat_map (λ l. l) lists) h)
later_within {X} R (m ∷ lists) l (inr i) h = later_within R lists l i (later_right R m (flat_map (λ l. l) lists) h)

-- the pairs of all segments are their lines
count_dealt : (n : ℕ) (parts : List (List Pair)) → 0 < n →
    count_all (map (dealt_out n) parts) ≡ length (flat_map (λ l. l) parts)
count_dealt n [] some = refl
count_dealt n (part ∷ parts) some =
    let a = length_permutation part (all_of (dealt_out n part)) (dealt_all n part some) in
    let b = count_dealt n parts some in
    omega (
      arith,
      a,
      b,
      length-append part (flat_map (λ l. l) parts),
      length-append (all_of (dealt_out n part)) (flat_map all_of (map (dealt_out n) parts)),
    )

-- of a list no more elements pass than it has
few_pass : {X : Type 0} (t : X → Bool) (xs : List X) → length (filter t xs) ≤ length xs
few_pass t [] = omega arith
few_pass {X} t (x ∷ xs) = by (t x) (few_pass t xs)
  where
    by : (b : Bool) → length (filter t xs) ≤ length xs →
        length (cond b (x ∷ filter t xs) (filter t xs)) ≤ suc (length xs)
    by true l = omega (arith, l)
    by false l = omega (arith, l)

-- a list that is numbered has as many elements
numbered_length : {X : Type 0} (n : ℕ) (xs : List X) → length (enumerate_from n xs) ≡ length xs
numbered_length n [] = refl
numbered_length n (x ∷ xs) = ap suc (numbered_length (n + 1) xs)

-- lines whose tags rise
module _ (workers : ℕ) (lines : List Pair) (lower : EachLater (λ (a b : Pair). a.0 < b.0) lines) (some : 0 < workers)
  where
    -- the lists of a segment
    segment_done : workers ≤ 64 → (segment : List Pair) → IsIn segment (segments lines) →
        CanBeDone (dealt_out workers segment)
    segment_done few segment i = record {
      some = let n = dealt_count workers segment in omega (arith, n, some);
      short = let n = dealt_count workers segment in omega (arith, n, few);
      tags = all_of_each AreTagsAscending (dealt_out workers segment) (λ l j.
          let k = mapped_from (dealt_to workers segment) l (range_with_len 0 workers) j in
          subst AreTagsAscending k.2 (one k.0));
      apart = (segments_apart lines segment workers i).1;
      alone = alone_in_any_order segment (all_of (dealt_out workers segment)) (dealt_all workers segment some)
          (segments_apart lines segment workers i).0;
    }
      where
        one : (j : ℕ) → AreTagsAscending (dealt_to workers segment j)
        one j =
            later_pairs (λ (a b : Pair). a.0 < b.0) (dealt_to workers segment j)
            (later_filter (λ (a b : Pair). a.0 < b.0) (λ line. point_of line.1 % workers == j) segment
            (later_within (λ (a b : Pair). a.0 < b.0) (segments lines) segment i
            (subst (EachLater (λ (a b : Pair). a.0 < b.0)) (sym (segments_keep lines)) lower)))

    -- so the lists of all segments can be done
    pub lines_done : workers ≤ 64 → All CanBeDone (dealt_lines workers lines)
    lines_done few =
        all_of_each CanBeDone (dealt_lines workers lines) (λ l i.
        let k = mapped_from (dealt_out workers) l (segments lines) i in
        subst CanBeDone k.2 (segment_done few k.0 k.1))

    -- all together they are as many pairs as lines
    pub lines_many : count_all (dealt_lines workers lines) ≡ length lines
    lines_many = count_dealt workers (segments lines) some ∙ ap length (segments_keep lines)

-- all lines of a file but the opening four
module _ (workers : ℕ) (four points : List ℕ) (edits : List Edit) (some : 0 < workers) where
  -- the lines of a file that are none of the opening four
  abbrev others : List Pair
  others = other_lines four (tagged_lines points edits)

  -- their tags rise
  lower : EachLater (λ (a b : Pair). a.0 < b.0) others
  lower =
      later_filter (λ (a b : Pair). a.0 < b.0) (λ line. not (is_among line.0 four)) (tagged_lines points edits)
      (numbered_lower 0 (map Add points ++ edits))

  -- dealt out, they can be done
  pub dealt_done : workers ≤ 64 → All CanBeDone (dealt workers four (tagged_lines points edits))
  dealt_done few = lines_done workers others lower some few

  -- all together they have at most as many pairs as the file has lines
  pub dealt_few : count_all (dealt workers four (tagged_lines points edits)) ≤ length points + length edits
  dealt_few =
      let e = lines_many workers others lower some in
      let f = few_pass (λ (line : Pair). not (is_among line.0 four)) (tagged_lines points edits) in
      let n = numbered_length 0 (map Add points ++ edits) in
      omega (arith, e, f, n, length-append (map Add points) edits, length-map points Add)

-- the edit lines of a file
module _ (workers : ℕ) (points : List ℕ) (edits : List Edit) (some : 0 < workers) where
  -- dealt out, they can be done
  pub edits_done : workers ≤ 64 → All CanBeDone (dealt_lines workers (edit_lines points edits))
  edits_done few = lines_done workers (edit_lines points edits) (numbered_lower (length points) edits) some few

  -- and are as many pairs as edits
  pub edits_many : count_all (dealt_lines workers (edit_lines points edits)) ≡ length edits
  edits_many =
      lines_many workers (edit_lines points edits) (numbered_lower (length points) edits) some
      ∙ numbered_length (length points) edits

-- the history of one thread of points has an entry for each
pub points_many : (points : List ℕ) (four : List ℕ) → AreOpening points four →
    length (one_thread points []) ≡ length points
points_many points four found =
    let kept : Keeps points [] 1 (one_thread points []) =
    subst (λ (o : Option FourPlaces). IfSome o (λ _. Keeps points [] 1 (one_thread points []))) found.1
    (keeps_law points [])
    in
    let p = length_permutation (tagged_lines points []) (map line_of (one_thread points [])) kept.lines in
    let n = numbered_length 0 (map Add points ++ []) in
    let m = length-map (one_thread points []) line_of in
    omega (arith, p, n, m, length-append (map Add points) [], length-map points Add)

-- ---- what runs of them leave

-- an entry of a segment is by 0 or by the worker that its point names
named : (n : ℕ) (parts : List (List Pair)) (lists : List (List Pair)) (made : List Entry) →
    IsIn lists (map (dealt_out n) parts) → IsRun lists made → EndsLate lists made → (e : Entry) → IsIn e made →
    (e.by ≡ 0) ⊎ (e.by ≡ point_of e.edit % n)
named n parts lists made i run ends e j =
    let part = mapped_from (dealt_out n) lists parts i in
    elim (from_append e ends.made ends.late (subst (IsIn e) ends.both j)) [
      | inl k ↦ inr (
          let below : e.by < n = (
          let b = each_of_all (λ (e : Entry). e.by < length lists) made run.workers e j in
          let c = ap length part.2 in
          omega (arith, b, c, dealt_count n part.0)
          ) in
          let own : IsIn (line_of e) (slice_index_or (dealt_out n part.0) (e.by - 0) []) =
          subst (λ (l : List (List Pair)). IsIn (line_of e) (slice_index_or l (e.by - 0) [])) (sym part.2)
          (ends.owned e k) in
          let first : e.by - 0 ≡ e.by = omega arith in
          let from_0 : 0 + e.by ≡ e.by = omega arith in
          let there : IsIn (line_of e) (dealt_to n part.0 e.by) =
          subst (IsIn (line_of e)) (ap (λ (m : ℕ). slice_index_or (dealt_out n part.0) m []) first
          ∙ get_or-map-range_with_len (dealt_to n part.0) 0 n e.by e.by [] below from_0) own in
          sym (eqb-true (point_of e.edit % n) e.by
          (passes (λ (line : Pair). point_of line.1 % n == e.by) part.0 (line_of e) there))
          )
      | inr k ↦ inl (each_of_all (λ (e : Entry). e.by ≡ 0) ends.late ends.by_none e k)
    ]

module _ (points : List ℕ) (edits : List Edit) (workers : ℕ) (four : List ℕ) (found : AreOpening points four)
    (some : 0 < workers) (ls : List (List (List Pair))) (deals : ls ≡ dealt_lines workers (edit_lines points edits))
    (h k : List Entry) (opens : h ≡ one_thread points []) (run : AreRun ls h k) where
  -- the entries that the workers made are runs of the dealt lines
  are_runs : AreRuns (dealt_lines workers (edit_lines points edits)) run.more
  are_runs = subst (λ (l : List (List (List Pair))). AreRuns l run.more) deals (done_runs ls run.more run.done)

  -- the history is that of one thread of the points, and then these
  history_is : k ≡ one_thread points [] ++ run.more
  history_is = run.history ∙ ap (λ (l : List Entry). l ++ run.more) opens

  -- they keep the file
  pub run_kept : Keeps points edits workers k
  run_kept =
      subst (Keeps points edits workers) (sym history_is)
      (run_behind_keeps points edits workers found.0 run.more found.1 some are_runs)

  -- of one worker they are the history of one thread, where they are legal
  pub run_of_one : workers ≡ 1 → IsLegal k → k ≡ one_thread points edits
  run_of_one e legal =
      let one : AreRuns (dealt_lines 1 (edit_lines points edits)) run.more =
      subst (λ (n : ℕ). AreRuns (dealt_lines n (edit_lines points edits)) run.more) e are_runs in
      history_is ∙ run_behind_alone points edits found.0 run.more found.1 one (subst IsLegal history_is legal)

  -- each entry is by 0 or by the worker that its point names
  pub run_dealt : AreDealt workers k
  run_dealt =
      let parts = segments (edit_lines points edits) in
      let P : Entry → Type 0 = λ e. (e.by ≡ 0) ⊎ (e.by ≡ point_of e.edit % workers) in
      let later = done_each ls run.more P run.done (λ lists made i.
      named workers parts lists made (subst (λ (l : List (List (List Pair))). IsIn lists l) deals i)) in
      subst (AreDealt workers) (sym run.history) (all_of_each P (h ++ run.more)
      (λ e i. elim (from_append e h run.more i) [
        | inl j ↦ inl (by_none 0 [] (lines_of_one_thread (opening_four points) (tagged_lines points [])) e
            (subst (IsIn e) opens j))
        | inr j ↦ each_of_all P run.more later e j
      ]))
