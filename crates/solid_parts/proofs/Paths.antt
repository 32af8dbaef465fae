-- Paths over cells that share triples.
use Rattle.std.proofs.Common.{◌≡◌, refl, sym, subst, ap, ◌∙◌, ℕ, ◌<◌, ◌≤◌, ◌+◌, inl, inr, Bool, List, [], ◌∷◌, ◌++◌}
use Rattle.std.proofs.Common.{All, append-nil, drop, take, length, get_or, arith}
use Rattle.std.specs.List.{range_with_len}
use Rattle.std.proofs.lemmas.Bool.{cases_lt}
use Rattle.std.proofs.lemmas.List.{drop_all, take_all}
use Rattle.std.proofs.lemmas.List.FromFn.{length-range_with_len}
use Rattle.list_laws.specs.Lists.{IsIn}
use Rattle.list_laws.proofs.Cited.{at_in, each_of_all}
use Rattle.point_order.specs.declared.cell.Cell.{Cell}
use Rattle.face_list.specs.Seen.{FaceLists}
use Rattle.face_list.specs.Tables.{cell_at, cells_numbered}
use Rattle.solid_parts.specs.Groups.{AreAllJoined, AreJoinedAll, IsMarkedAt, LeadDown, LeadTo, MeetsMarked}
use Rattle.solid_parts.specs.Labels.{HaveOneLabel, AreBeside, AreLabels, IsPath}
use Rattle.solid_parts.proofs.Leading.{each_down, each_itself, own as own_label}

-- one path and then another
pub path_then : (faces : FaceLists) (marks : List Bool) (i : ℕ) (path : List ℕ) (j : ℕ) (more : List ℕ) (k : ℕ) →
    IsPath faces marks i path j → IsPath faces marks j more k → IsPath faces marks i (path ++ more) k
path_then faces marks i [] j more k e q = subst (λ n. IsPath faces marks n more k) (sym e) q
path_then faces marks i (m ∷ path) j more k p q = (p.0, path_then faces marks m path j more k p.1 q)

-- the cell of a number is among the cells of some numbers
pub cell_in : (cells : List Cell) (numbers : List ℕ) (u : ℕ) → IsIn u numbers →
    IsIn (cell_at cells u) (cells_numbered cells numbers)
cell_in cells [] u i = absurd i
cell_in cells (n ∷ numbers) u (inl e) = inl (ap (cell_at cells) e)
cell_in cells (n ∷ numbers) u (inr i) = inr (cell_in cells numbers u i)

-- ---- each cell by itself

-- before the first triple the labels are those of the cells alone
pub labels_start : (faces : FaceLists) (marks : List Bool) (labels : List ℕ) →
    labels ≡ range_with_len 0 (length faces.cells) → AreLabels faces marks 0 labels
labels_start faces marks labels e = subst (AreLabels faces marks 0) (sym e) (record {
  count = length-range_with_len 0 (length faces.cells);
  below = λ i h. let l = subst (λ n. i < n) (length-range_with_len 0 (length faces.cells)) h in subst
      (λ n. n < length faces.cells) (sym (own_label (length faces.cells) i l)) l;
  joined = λ t l. absurd (omega (arith, l));
  only = λ i j h k s. ([], sym (own_label (length faces.cells) i h) ∙ s ∙ own_label (length faces.cells) j k);
})

-- what is written back to all of a list stands in it
pub written_back : (n : ℕ) (before lent ys : List ℕ) → lent ≡ before → length lent ≡ n → length ys ≡ length lent →
    take n (ys ++ drop (length ys) before) ≡ ys
written_back n before lent ys v k a =
    let m : length ys ≡ length before = a ∙ ap length v in
    ap (λ t. take n (ys ++ t)) (drop_all (length ys) before (omega (arith, m))) ∙ ap (take n) (append-nil ys)
    ∙ take_all n ys (omega (arith, a, k))

-- ---- one triple more

-- marked cells that shared a label still do
alike_after : (faces : FaceLists) (marks : List Bool) (numbers old new : List ℕ) (triple : List ℕ × List Cell) →
    length old ≡ length faces.cells → AreJoinedAll marks numbers old new → HaveOneLabel faces marks old triple →
    HaveOneLabel faces marks new triple
alike_after faces marks numbers old new triple n j a = record {
  numbers = a.numbers;
  around = a.around;
  below = a.below;
  alike = λ u v i k m p. j.kept u v (within u i) (within v k) (a.alike u v i k m p);
}
  where
    within : (u : ℕ) → IsIn u a.numbers → u < length old
    within u i = subst (λ c. u < c) (sym n) (each_of_all (λ c. c < length faces.cells) a.numbers a.below u i)

-- with the next triple's cells joined they are right for one triple more
pub labels_next :
    (faces : FaceLists) (marks : List Bool) (k : ℕ) (numbers old new : List ℕ) → k < length faces.triples →
    cells_numbered faces.cells numbers ≡ (get_or faces.triples k ([], [])).1 →
    All (λ n. n < length faces.cells) numbers → AreLabels faces marks k old → AreJoinedAll marks numbers old new →
    AreLabels faces marks (k + 1) new
labels_next faces marks k numbers old new h e below l j = record {
  count = j.count ∙ l.count;
  below = λ i h. let a = j.among i (subst (λ n. i < n) j.count h) in subst (λ n. n < length faces.cells) (sym a.2)
      (l.below a.0 a.1);
  joined = λ t m. elim (cases_lt t k) [
    | inl b ↦ alike_after faces marks numbers old new _ l.count j (l.joined t b)
    | inr b ↦ subst (λ t. HaveOneLabel faces marks new (get_or faces.triples t ([], []))) (last t m b) here
  ];
  only = λ i m p q s. elim (j.only i m (up i p) (up m q) s) [
    | inl r ↦ l.only i m p q r
    | inr r ↦ across i m p q r.0 r.1
  ];
}
  where
    last : (t : ℕ) → t < k + 1 → k ≤ t → k ≡ t
    last t m b = omega (arith, m, b)

    up : (i : ℕ) → i < length faces.cells → i < length old
    up i p = subst (λ c. i < c) (sym l.count) p

    within : (u : ℕ) → IsIn u numbers → u < length faces.cells
    within u i = each_of_all (λ c. c < length faces.cells) numbers below u i

    here : HaveOneLabel faces marks new (get_or faces.triples k ([], []))
    here = record { numbers = numbers; around = e; below = below; alike = j.joined }

    beside : (u v : ℕ) → IsIn u numbers → IsIn v numbers → IsMarkedAt marks u → IsMarkedAt marks v →
        AreBeside faces marks u v
    beside u v i m p q = record {
      triple = get_or faces.triples k ([], []);
      listed = at_in faces.triples k ([], []) h;
      first = subst (λ (c : List Cell). IsIn (cell_at faces.cells u) c) e (cell_in faces.cells numbers u i);
      second = subst (λ (c : List Cell). IsIn (cell_at faces.cells v) c) e (cell_in faces.cells numbers v m);
      first_marked = p;
      second_marked = q;
    }

    across : (i m : ℕ) → i < length faces.cells → m < length faces.cells → MeetsMarked old marks numbers i →
        MeetsMarked old marks numbers m → (path : List ℕ) × IsPath faces marks i path m
    across i m p q r s =
        let u = r.0 in
        let v = s.0 in
        let one = l.only i u p (within u r.1) r.3 in
        let two = l.only v m (within v s.1) q (sym s.3) in
        (one.0 ++ v ∷ two.0, path_then faces marks i one.0 u (v ∷ two.0) m one.1 (beside u v r.1 s.1 r.2 s.2, two.1))

-- ---- labels to which numbers lead

-- Numbers lead to labels that are right for the first k triples.
pub record LeadToLabels (faces : FaceLists) (marks : List Bool) (k : ℕ) (leads : List ℕ) : Type 0 where
  pub down : LeadDown leads
  pub labels : List ℕ
  pub leads_to : LeadTo leads labels
  pub are_labels : AreLabels faces marks k labels

-- before the first triple each cell leads to itself
pub leads_start : (faces : FaceLists) (marks : List Bool) (leads : List ℕ) →
    leads ≡ range_with_len 0 (length faces.cells)
    → LeadToLabels faces marks 0 leads
leads_start faces marks leads e =
    subst (LeadToLabels faces marks 0) (sym e) (record {
      down = each_down (length faces.cells);
      labels = range_with_len 0 (length faces.cells);
      leads_to = each_itself (length faces.cells);
      are_labels = labels_start faces marks (range_with_len 0 (length faces.cells)) refl;
    })

-- with the next triple's cells joined they lead to labels that are right for one more
pub leads_next :
    (faces : FaceLists) (marks : List Bool) (k : ℕ) (numbers old new : List ℕ) → k < length faces.triples
    → cells_numbered faces.cells numbers ≡ (get_or faces.triples k ([], [])).1 →
    All (λ n. n < length faces.cells) numbers
    → LeadToLabels faces marks k old → LeadDown new
    → ((labels : List ℕ) → LeadTo old labels → AreAllJoined marks numbers labels new) →
    LeadToLabels faces marks (k + 1) new
leads_next faces marks k numbers old new h e below l d j =
    let r = j l.labels l.leads_to in
    record {
      down = d;
      labels = r.new;
      leads_to = r.leads_to;
      are_labels = labels_next faces marks k numbers l.labels r.new h e below l.are_labels r.joins;
    }

-- all triples are done
pub leads_end : (faces : FaceLists) (marks : List Bool) (k : ℕ) (leads new : List ℕ) → length faces.triples ≡ k
    → LeadToLabels faces marks k leads → ((labels : List ℕ) → LeadTo leads labels → new ≡ labels)
    → AreLabels faces marks (length faces.triples) new
leads_end faces marks k leads new e l f =
    subst (λ n. AreLabels faces marks n new) (sym e)
    (subst (AreLabels faces marks k) (sym (f l.labels l.leads_to)) l.are_labels)
