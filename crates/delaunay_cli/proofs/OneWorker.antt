-- The edits of a file that one worker makes in their order, behind its points.
use Rattle.std.specs.Prelude.{◌≡◌, ℕ, suc, ◌+◌, ◌%◌, ◌<◌, ◌==◌, true, List, [], ◌∷◌, ◌++◌, map, length, Some}
use Rattle.std.specs.Prelude.{IsPermutation}
use Rattle.std.specs.List.{flat_map}
use Rattle.std.proofs.Common.{refl, sym, ◌∙◌, ap, subst, arith, get_or}
use Rattle.std.proofs.Math.Nat.{mod-lt}
use Rattle.std.proofs.lemmas.List.Sorted.{IsPermutation-sym}
use Rattle.list_laws.proofs.Cited.{EachLater, all_of_each, all_pass, later_left, later_pairs, later_right, later_unmap}
use Rattle.list_laws.proofs.Cited.{later_weaken, numbered_lower, same_true}
use Rattle.edit_history.specs.declared.history.Edit.{Edit}
use Rattle.edit_history.specs.declared.history.Entry.{Entry}
use Rattle.edit_history.specs.Edits.{after, point_of, reply_to, share_point}
use Rattle.edit_history.specs.Histories.{IsLegal, IsLegalFrom, entries_from, replay, replay_from}
use Rattle.edit_history.specs.Opening.{opening_four, FourPlaces}
use Rattle.edit_history.specs.OneThread.{line_of, one_thread}
use Rattle.edit_history.proofs.Cited.{entry_lines}
use Rattle.edit_lists.specs.Dealing.{AreOpening}
use Rattle.plain_laws.specs.Running.{Pair, AreRuns, IsRun, dealt_out, dealt_to, edit_lines, segments}
use Rattle.plain_laws.proofs.Cited.{dealt_all, entry_by, run_behind_alone, segments_keep}
use Rattle.edit_workers.specs.Alone.{with_edits}

-- the tag rises
abbrev Rises : Pair → Pair → Type 0
Rises p q = p.0 < q.0

-- of one worker the list has all lines
one_list : (part : List Pair) → dealt_to 1 part 0 ≡ part
one_list part = all_pass (λ (line : Pair). point_of line.1 % 1 == 0) part (λ line. whole (point_of line.1))
  where
    whole : (m : ℕ) → (m % 1 == 0) ≡ true
    whole m = same_true (m % 1) 0 (let l : m % 1 < 1 = mod-lt m (omega arith) in omega (arith, l))

-- the entries of lines whose tags rise are a run of them
one_run : (n : ℕ) (s : List ℕ) (part : List Pair) → EachLater Rises part →
    IsRun (dealt_out 1 part) (entries_from n s part)
one_run n s part low =
    let made : List Entry = entries_from n s part in
    record {
      lines = subst (IsPermutation (flat_map (λ l. l) (dealt_out 1 part))) (sym (entry_lines n s part))
          (IsPermutation-sym part (flat_map (λ l. l) (dealt_out 1 part)) (dealt_all 1 part (omega arith)));
      order = later_pairs (λ (d e : Entry). share_point d.edit e.edit ≡ true → d.tag < e.tag) made
          (later_weaken (λ (d e : Entry). d.tag < e.tag)
          (λ (d e : Entry). share_point d.edit e.edit ≡ true → d.tag < e.tag) made (λ d e i j l shared. l)
          (later_unmap line_of Rises made (subst (EachLater Rises) (sym (entry_lines n s part)) low)));
      workers = all_of_each (λ (e : Entry). e.by < 1) made
          (λ e i. let b = entry_by n s part e i in omega (arith, b));
      alone = λ l e. entry_lines n s part ∙ sym (one_list part) ∙ ap (λ (ls : List (List Pair)). get_or ls 0 []) e;
    }

-- the entries of some lines, and then of others
entries_both : (n : ℕ) (s : List ℕ) (part rest : List Pair) → entries_from n s (part ++ rest) ≡ entries_from n s part
    ++ entries_from (n + length part) (replay_from s (entries_from n s part)) rest
entries_both n s [] rest = ap (λ (m : ℕ). entries_from m s rest) (let e : n ≡ n + 0 = omega arith in e)
entries_both n s (line ∷ part) rest =
    let t = after s line.1 in
    let e : n + 1 + length part ≡ n + suc (length part) = omega arith in
    let first : Entry = record { number = n; by = 0; tag = line.0; edit = line.1; reply = reply_to s line.1 } in
    let made : List Entry = entries_from (n + 1) t part in
    ap (λ (l : List Entry). first ∷ l) (entries_both (n + 1) t part rest
    ∙ ap (λ (m : ℕ). made ++ entries_from m (replay_from t made) rest) e)

-- so those of all segments are runs of each
all_runs : (n : ℕ) (s : List ℕ) (parts : List (List Pair)) → EachLater Rises (flat_map (λ l. l) parts) →
    AreRuns (map (dealt_out 1) parts) (entries_from n s (flat_map (λ l. l) parts))
all_runs n s [] low = refl
all_runs n s (part ∷ parts) low =
    let rest : List Pair = flat_map (λ l. l) parts in
    let made : List Entry = entries_from n s part in (
      made,
      entries_from (n + length part) (replay_from s made) rest,
      entries_both n s part rest,
      one_run n s part (later_left Rises part rest low),
      all_runs (n + length part) (replay_from s made) parts (later_right Rises part rest low),
    )

-- entries that one thread makes behind legal ones are legal
legal_then : (n : ℕ) (s : List ℕ) (h : List Entry) (lines : List Pair) → IsLegalFrom n s h →
    IsLegalFrom n s (h ++ entries_from (n + length h) (replay_from s h) lines)
legal_then n s [] lines l =
    subst (λ (m : ℕ). IsLegalFrom n s (entries_from m s lines)) (let e : n ≡ n + 0 = omega arith in e) (by n s lines)
  where
    by : (n : ℕ) (s : List ℕ) (lines : List Pair) → IsLegalFrom n s (entries_from n s lines)
    by n s [] = tt
    by n s (line ∷ lines) = (refl, refl, by (n + 1) (after s line.1) lines)
legal_then n s (e ∷ h) lines l =
    let t = after s e.edit in
    let q : n + 1 + length h ≡ n + suc (length h) = omega arith in (
      l.0,
      l.1,
      subst (λ (m : ℕ). IsLegalFrom (n + 1) t (h ++ entries_from m (replay_from t h) lines)) q
          (legal_then (n + 1) t h lines l.2),
    )

-- the history of one thread of the points, and then of the edits, is that of the file
pub one_worker : (points : List ℕ) (edits : List Edit) (four : FourPlaces) → opening_four points ≡ Some four →
    IsLegal (one_thread points []) → with_edits (one_thread points []) (length points) edits ≡ one_thread points edits
one_worker points edits four found legal =
    let lines = edit_lines points edits in
    let front = one_thread points [] in
    let run : List Entry = entries_from (length front) (replay front) lines in
    let from_0 : 0 + length front ≡ length front = omega arith in
    run_behind_alone points edits four run found
    (subst (λ (l : List Pair). AreRuns (map (dealt_out 1) (segments lines))
    (entries_from (length front) (replay front) l)) (segments_keep lines)
    (all_runs (length front) (replay front) (segments lines)
    (subst (EachLater Rises) (sym (segments_keep lines)) (numbered_lower (length points) edits))))
    (subst (λ (m : ℕ). IsLegal (front ++ entries_from m (replay front) lines)) from_0
    (legal_then 0 [] front lines legal))

-- so is what one worker makes of a mesh of the points
pub made_by_one : (points : List ℕ) (edits : List Edit) (four : List ℕ) → AreOpening points four →
    IsLegal (one_thread points []) → (h k : List Entry) (first : ℕ) → h ≡ one_thread points [] →
    first ≡ length points → k ≡ with_edits h first edits → k ≡ one_thread points edits
made_by_one points edits four found legal h k first begun number made =
    made ∙ (λ i. with_edits (begun i) (number i) edits) ∙ one_worker points edits found.0 found.1 legal
