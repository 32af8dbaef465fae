-- Segments that are done one after another.
use Rattle.std.specs.Prelude.{◌≡◌, ℕ, zero, suc, ◌+◌, ◌<◌, ◌≤◌, List, [], ◌∷◌, ◌++◌, map, length, take, All}
use Rattle.std.specs.List.{flat_map}
use Rattle.std.proofs.Common.{refl, sym, ◌∙◌, ap, subst, inl, inr, arith, get_or, length-append}
use Rattle.std.proofs.Math.Seq.{take-suc}
use Rattle.std.proofs.lemmas.Grind.{flat_map-append}
use Rattle.std.proofs.lemmas.List.{append-nil, append_assoc, length-map, map-append, take_all}
use Rattle.std.proofs.lemmas.List.Elements.{All-append}
use Rattle.std.proofs.lemmas.List.Sorted.{length_permutation}
use Rattle.list_laws.proofs.Cited.{all_of_each, at_in, each_of_all, from_append, mapped_true}
use Rattle.point_order.specs.Sets.{IsIn}
use Rattle.edit_history.specs.declared.history.Entry.{Entry}
use Rattle.edit_history.specs.OneThread.{line_of}
use Rattle.cell_store.specs.Meshes.{MeshView}
use Rattle.one_mesh.specs.Applied.{edited, next_entry}
use Rattle.plain_laws.specs.Running.{Pair, IsRun, AreRuns}
use Rattle.edit_lists.specs.declared.lists.List as lists
use Rattle.edit_lists.specs.declared.lists.Segment.{Segment}
use Rattle.edit_lists.specs.Dealing.{all_of, count_in_all, count_all, lists_of, pairs_in}
use Rattle.edit_workers.specs.Running.{AreApplied, AreDone, AreRun, EndsLate, IsSegmentRun}
use Rattle.edit_workers.proofs.Counts.{count_within as counted}

-- ---- one after another

-- a segment more is done behind the others
done_more : (segments : List (List (List Pair))) (lists : List (List Pair)) (entries more : List Entry) →
    AreDone segments entries → IsRun lists more → EndsLate lists more →
    AreDone (segments ++ lists ∷ []) (entries ++ more)
done_more [] lists entries more e run ends =
    (more, [], ap (λ (l : List Entry). l ++ more) e ∙ sym (append-nil more), run, ends, refl)
done_more (s ∷ segments) lists entries more r run ends = (
  r.0,
  r.1 ++ more,
  ap (λ (l : List Entry). l ++ more) r.2 ∙ append_assoc r.0 r.1 more,
  r.3,
  r.4,
  done_more segments lists r.1 more r.5 run ends,
)

-- what is done has as many entries as there are pairs
done_count : (segments : List (List (List Pair))) (entries : List Entry) → AreDone segments entries →
    length entries ≡ count_all segments
done_count [] entries e = ap length e
done_count (lists ∷ segments) entries r =
    let a : length (map line_of r.0) ≡ count_in_all lists = length_permutation (all_of lists) (map line_of r.0)
    r.3.lines in
    let b = done_count segments r.1 r.5 in
    let e = ap length r.2 in
    omega (
      arith,
      a,
      b,
      e,
      length-append r.0 r.1,
      length-map r.0 line_of,
      length-append (all_of lists) (flat_map all_of segments),
    )

-- segments that are done have runs
pub done_runs : (segments : List (List (List Pair))) (entries : List Entry) → AreDone segments entries →
    AreRuns segments entries
done_runs [] entries e = e
done_runs (lists ∷ segments) entries r = (r.0, r.1, r.2, r.3, done_runs segments r.1 r.5)

-- each entry is one of some segment
pub done_each : (segments : List (List (List Pair))) (entries : List Entry) (P : Entry → Type 0) →
    AreDone segments entries →
    ((lists : List (List Pair)) (made : List Entry) → IsIn lists segments → IsRun lists made → EndsLate lists made →
    (e : Entry) → IsIn e made → P e) → All P entries
done_each [] entries P h f = subst (All P) (sym h) (all_of_each P [] (λ e i. absurd i))
done_each (lists ∷ segments) entries P h f =
    subst (All P) (sym h.2) (all_of_each P (h.0 ++ h.1) (λ e i. elim (from_append e h.0 h.1 i) [
      | inl j ↦ f lists h.0 (inl refl) h.3 h.4 e j
      | inr j ↦ each_of_all P h.1 (done_each segments h.1 P h.5 (λ l m k. f l m (inr k))) e j
    ]))

-- ---- the loop over the segments

-- nothing is done
pub run_nothing : (h : List Entry) → AreRun [] h h
run_nothing h = record { more = []; history = sym (append-nil h); done = refl }

-- one segment more
pub run_more : (segments : List (List (List Pair))) (lists : List (List Pair)) (h k m : List Entry) →
    AreRun segments h k → IsSegmentRun lists k m → AreRun (segments ++ lists ∷ []) h m
run_more segments lists h k m r s = record {
  more = r.more ++ s.more;
  history = s.history ∙ ap (λ (l : List Entry). l ++ s.more) r.history ∙ append_assoc h r.more s.more;
  done = done_more segments lists r.more s.more r.done s.run s.ends;
}

-- as many entries more as there are pairs
run_count : (segments : List (List (List Pair))) (h k : List Entry) → AreRun segments h k →
    length k ≡ length h + count_all segments
run_count segments h k r =
    let e = ap length r.history in
    let n = done_count segments r.more r.done in
    omega (arith, e, n, length-append h r.more)

-- the first n + 1 of a list are the first n and the one behind them
take_next : {X : Type 0} (l : List X) (n : ℕ) (x : X) → n < length l → x ≡ get_or l n x →
    take (n + 1) l ≡ take n l ++ x ∷ []
take_next {X} l n x b e =
    let up : n + 1 ≡ suc n = omega arith in
    ap (λ (k : ℕ). take k l) up ∙ take-suc l n x b ∙ ap (λ (y : X). take n l ++ y ∷ []) (sym e)

-- the segments in front of a place
abbrev pub front_of : ℕ → List Segment → List (List (List Pair))
front_of n segments = map lists_of (take n segments)

-- those in front of the next place are those in front of this, and the one here
front_next : (segments : List Segment) (n : ℕ) (x : Segment) → n < length segments → x ≡ get_or segments n x →
    front_of (n + 1) segments ≡ front_of n segments ++ lists_of x ∷ []
front_next segments n x b e =
    ap (map lists_of) (take_next segments n x b e) ∙ map-append lists_of (take n segments) (x ∷ [])

-- the next segment is done
pub run_next : (segments : List Segment) (n : ℕ) (x : Segment) (h k m : List Entry) →
    n < length segments → x ≡ get_or segments n x →
    AreRun (front_of n segments) h k → IsSegmentRun (lists_of x) k m → AreRun (front_of (n + 1) segments) h m
run_next segments n x h k m b e r s =
    subst (λ (l : List (List (List Pair))). AreRun l h m) (sym (front_next segments n x b e))
    (run_more (front_of n segments) (lists_of x) h k m r s)

-- all are done
pub run_all : (segments : List Segment) (n : ℕ) (h k : List Entry) → length segments ≤ n →
    AreRun (front_of n segments) h k → AreRun (map lists_of segments) h k
run_all segments n h k b r =
    subst (λ (l : List Segment). AreRun (map lists_of l) h k) (take_all n segments b) r

-- a segment among others has no more pairs than all
count_within : (segments : List Segment) (n : ℕ) (x : Segment) → n < length segments → x ≡ get_or segments n x →
    count_all (front_of n segments) + count_in_all (lists_of x) ≤ count_all (map lists_of segments)
count_within [] n x b e = absurd (omega (arith, b))
count_within (s ∷ segments) zero x b e =
    let f : count_in_all (lists_of x) ≡ count_in_all (lists_of s) = ap (λ (y : Segment). count_in_all (lists_of y)) e in
    omega (arith, f, length-append (all_of (lists_of s)) (flat_map all_of (map lists_of segments)))
count_within (s ∷ segments) (suc n) x b e =
    let r = count_within segments n x (omega (arith, b)) e in
    omega (
      arith,
      r,
      length-append (all_of (lists_of s)) (flat_map all_of (map lists_of segments)),
      length-append (all_of (lists_of s)) (flat_map all_of (front_of n segments)),
    )

-- there is room for the next segment
pub room_next : (segments : List Segment) (n : ℕ) (x : Segment) (h k : List Entry) (most : ℕ) →
    n < length segments → x ≡ get_or segments n x → AreRun (front_of n segments) h k →
    length h + count_all (map lists_of segments) ≤ most → length k + count_in_all (lists_of x) ≤ most
room_next segments n x h k most b e r room =
    let c = run_count (front_of n segments) h k r in
    let w = count_within segments n x b e in
    omega (arith, c, w, room)

-- what holds of the lists of each segment holds of those of one
pub of_segment : (P : List (List Pair) → Type 0) (segments : List Segment) (n : ℕ) (x : Segment) →
    n < length segments → x ≡ get_or segments n x → All P (map lists_of segments) → P (lists_of x)
of_segment P segments n x b e all =
    each_of_all P (map lists_of segments) all (lists_of x)
    (mapped_true lists_of x segments (subst (λ (y : Segment). IsIn y segments) (sym e) (at_in segments n x b)))

-- ---- pairs that are made one by one

-- more of them
applied_both : (p q : List Pair) (h k m : List Entry) → AreApplied p h k → AreApplied q k m → AreApplied (p ++ q) h m
applied_both p q h k m a b = record {
  more = a.more ++ b.more;
  history = b.history ∙ ap (λ (l : List Entry). l ++ b.more) a.history ∙ append_assoc h a.more b.more;
  pairs_are = map-append line_of a.more b.more ∙ (λ i. a.pairs_are i ++ b.pairs_are i);
  by_none = All-append (λ (e : Entry). e.by ≡ 0) a.more b.more a.by_none b.by_none;
}

-- the next of them
pub applied_one : (pairs : List Pair) (n : ℕ) (x : Pair) (h : List Entry) (old new : MeshView) →
    n < length pairs → x ≡ get_or pairs n x → AreApplied (take n pairs) h old.history → new ≡ edited old x.0 x.1 →
    AreApplied (take (n + 1) pairs) h new.history
applied_one pairs n x h old new b e a f =
    subst (λ (l : List Pair). AreApplied l h new.history) (sym (take_next pairs n x b e))
    (applied_both (take n pairs) (x ∷ []) h old.history new.history a (record {
      more = next_entry old.history x.0 x.1 ∷ [];
      history = ap (λ (m : MeshView). m.history) f;
      pairs_are = refl;
      by_none = all_of_each (λ (e : Entry). e.by ≡ 0) (next_entry old.history x.0 x.1 ∷ [])
          (λ d i. elim i [ inl q ↦ sym (ap (λ (e : Entry). e.by) q) | inr j ↦ absurd j ]);
    }))

-- there is room for the next list
pub room_for : (ls : List lists.List) (n : ℕ) (x : lists.List) (h k : List Entry) (most : ℕ) →
    n < length ls → x ≡ get_or ls n x → AreApplied (all_of (pairs_in (take n ls))) h k →
    length h + count_in_all (pairs_in ls) ≤ most → length k + length x.pairs.items ≤ most
room_for ls n x h k most b e a room =
    let w = counted ls n x b e in
    let l = ap length a.history in
    let c = ap length a.pairs_are in
    omega (arith, w, l, c, room, length-append h a.more, length-map a.more line_of)
