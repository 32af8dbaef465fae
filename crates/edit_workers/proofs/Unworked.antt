-- Segments that are done without workers.
use Rattle.std.specs.Prelude.{◌≡◌, ◌≢◌, ◌<◌, ◌≤◌, true, List, [], ◌∷◌, ◌++◌, length, All, IsPermutation}
use Rattle.std.proofs.Common.{refl, sym, ◌∙◌, ap, subst, inl, arith, append-nil}
use Rattle.std.proofs.lemmas.List.Sorted.{IsPermutation-refl}
use Rattle.list_laws.proofs.Cited.{EachLater, all_of_each, each_of_all, later_append, later_pairs, later_unmap}
use Rattle.list_laws.proofs.Cited.{later_weaken, pairs_later}
use Rattle.point_order.specs.Sets.{IsIn}
use Rattle.edit_history.specs.declared.history.Entry.{Entry}
use Rattle.edit_history.specs.Edits.{share_point}
use Rattle.edit_history.specs.Histories.{IsLegal}
use Rattle.edit_history.specs.OneThread.{line_of}
use Rattle.plain_laws.specs.Running.{Pair, AreApart}
use Rattle.edit_lists.specs.Dealing.{AreTagsAscending, CanBeDone, all_of}
use Rattle.edit_workers.specs.Running.{AreApplied, AreByTag, AreRunBut, AscendAtPoint, IsSegmentRun}
use Rattle.edit_workers.proofs.Halves.{only_list}
use Rattle.edit_workers.proofs.Partly.{all_high, apart_across, apart_high, whole_run}

-- ---- one list

-- the tag rises
abbrev Rises : Entry → Entry → Type 0
Rises d e = d.tag < e.tag

-- pairs of a list that are made in its order are a run of it
run_of_list : (list : List Pair) (h k : List Entry) → AreTagsAscending list → AreApplied (list ++ []) h k →
    IsSegmentRun (list ∷ []) h k
run_of_list list h k tags a = record {
  more = a.more;
  history = a.history;
  run = record {
    lines = subst (IsPermutation (list ++ [])) (sym a.pairs_are) (IsPermutation-refl (list ++ []));
    order = later_pairs (λ (d e : Entry). share_point d.edit e.edit ≡ true → d.tag < e.tag) a.more
        (later_weaken Rises (λ (d e : Entry). share_point d.edit e.edit ≡ true → d.tag < e.tag) a.more
        (λ d e i j l shared. l) rising);
    workers = all_of_each (λ (e : Entry). e.by < 1) a.more
        (λ e i. let b = each_of_all (λ (e : Entry). e.by ≡ 0) a.more a.by_none e i in omega (arith, b));
    alone = λ l e. a.pairs_are ∙ append-nil list ∙ only_list list l e;
  };
  ends = record {
    made = [];
    late = a.more;
    both = refl;
    owned = λ e i. absurd i;
    by_none = a.by_none;
    tags = later_pairs (λ (d e : Entry). d.tag ≤ e.tag) a.more
        (later_weaken Rises (λ (d e : Entry). d.tag ≤ e.tag) a.more (λ d e i j l. omega (arith, l)) rising);
  };
}
  where
    rising : EachLater Rises a.more
    rising =
        later_unmap line_of (λ (p q : Pair). p.0 < q.0) a.more
        (subst (EachLater (λ (p q : Pair). p.0 < q.0)) (sym (append-nil list) ∙ sym a.pairs_are)
        (pairs_later (λ (p q : Pair). p.0 < q.0) list tags))

-- so it is where there is one list
pub run_of_one_list : (lists : List (List Pair)) (h k : List Entry) → length lists ≡ 1 → CanBeDone lists →
    AreApplied (all_of lists) h k → IsSegmentRun lists h k
run_of_one_list [] h k one can a = absurd (omega (arith, one))
run_of_one_list (l ∷ []) h k one can a =
    run_of_list l h k (each_of_all AreTagsAscending (l ∷ []) can.tags l (inl refl)) a
run_of_one_list (l ∷ m ∷ ls) h k one can a = absurd (omega (arith, one))

-- ---- several lists

-- pairs of one point stand by their tags in all lists together
ascend_all : (lists : List (List Pair)) → All AreTagsAscending lists → AreApart lists →
    EachLater AscendAtPoint (all_of lists)
ascend_all [] tags apart = tt
ascend_all (l ∷ ls) tags apart =
    later_append AscendAtPoint l (all_of ls)
    (later_weaken (λ (p q : Pair). p.0 < q.0) AscendAtPoint l (λ p q i j f same. f)
    (pairs_later (λ (p q : Pair). p.0 < q.0) l (each_of_all AreTagsAscending (l ∷ ls) tags l (inl refl))))
    (ascend_all ls (all_high AreTagsAscending (l ∷ []) ls tags) (apart_high (l ∷ []) ls apart))
    (λ p q i j same. absurd (apart_across (l ∷ []) ls apart p q (subst (IsIn p) (sym (append-nil l)) i) j same))

-- nothing is made, and all is left over
nothing_made : (lists : List (List Pair)) (h : List Entry) → 1 < length lists → CanBeDone lists →
    AreRunBut lists (all_of lists) h h
nothing_made lists h some can = record {
  more = [];
  history = sym (append-nil h);
  partly = record {
    lines = IsPermutation-refl (all_of lists);
    order = λ d e i. absurd i;
    behind = λ d p i. absurd i;
    later = later_pairs AscendAtPoint (all_of lists) (ascend_all lists can.tags can.apart);
  };
  workers = all_of_each (λ (e : Entry). e.by < length lists) [] (λ e i. absurd i);
  owned = λ e i. absurd i;
  alone = λ l e. let n = ap length e in absurd (omega (arith, n, some));
}

-- the pairs of several lists that are made by their tags are a run of them
pub run_by_tags : (lists : List (List Pair)) (sorted : List Pair) (h k : List Entry) → length lists ≢ 1 →
    CanBeDone lists → AreByTag (all_of lists) sorted → AreApplied sorted h k → IsLegal h → IsSegmentRun lists h k
run_by_tags lists sorted h k many can tags a legal =
    let some = can.some in
    let more : 1 < length lists = omega (arith, some, many) in
    whole_run lists (all_of lists) sorted h h k can.some (nothing_made lists h more can) tags a legal can.alone
