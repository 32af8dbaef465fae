-- Numbers that lead down to the labels of their groups.
use Rattle.std.proofs.Common.{◌≡◌, ◌≢◌, refl, sym, subst, ap, ap₂, ◌∙◌, ℕ, suc, ◌<◌, ◌≤◌, ◌+◌, inl, inr, Bool, true}
use Rattle.std.proofs.Common.{false, List, [], ◌∷◌, length, get_or, arith}
use Rattle.std.specs.Prelude.{◌⊎◌, ◌==◌, slice_set, if◌then◌else◌}
use Rattle.std.specs.List.{range_with_len}
use Rattle.std.proofs.lemmas.Bool.{cases_lt}
use Rattle.std.proofs.lemmas.Bool.Decides.{nat_tests}
use Rattle.std.proofs.lemmas.List.{get_or-set_same, get_or-set_other, length-map}
use Rattle.std.proofs.lemmas.List.FromFn.{get_or-range_with_len, length-range_with_len}
use Rattle.list_laws.proofs.Cited.{len_set}
use Rattle.solid_parts.specs.Groups.{IsMerged, LeadDown, LeadTo, label_at, merged, moved, twice}
use Rattle.solid_parts.proofs.Merging.{label_moved, moved_is, moved_to}

-- two numbers are equal or not
pub equal_or_not : (i j : ℕ) → (i ≡ j) ⊎ (i ≢ j)
equal_or_not i j = elim (cases_lt i j) [
  | inl l ↦ inr (λ e. omega (arith, l, e))
  | inr l ↦ elim (cases_lt j i) [ inl m ↦ inr (λ e. omega (arith, m, e)) | inr m ↦ inl (omega (arith, l, m)) ]
]

-- ---- a way made shorter

-- two steps lead down, or nowhere
twice_down : (leads : List ℕ) (i : ℕ) → LeadDown leads → i < length leads → twice leads i ≤ i
twice_down leads i d h =
    let one = d i h in
    let two = d (label_at leads i) (omega (arith, one, h)) in
    omega (arith, one, two)

-- another number at one place still leads down
pub set_down : (leads : List ℕ) (place to : ℕ) → LeadDown leads → place < length leads → to ≤ place
    → LeadDown (slice_set leads place to)
set_down leads place to d h t i l =
    let within = subst (λ n. i < n) (len_set leads place to) l in
    elim (equal_or_not i place) [
      | inl e ↦ subst (λ n. n ≤ i) (sym (ap (λ n. get_or (slice_set leads place to) n 0) e
          ∙ get_or-set_same leads place to 0 h)) (subst (λ n. to ≤ n) (sym e) t)
      | inr n ↦ subst (λ m. m ≤ i) (sym (get_or-set_other leads place i to 0 n)) (d i within)
    ]

-- a way made shorter by a step leads down still
pub shorter_down : (leads : List ℕ) (place : ℕ) → LeadDown leads → place < length leads
    → LeadDown (slice_set leads place (twice leads place))
shorter_down leads place d h = set_down leads place (twice leads place) d h (twice_down leads place d h)

-- what leads twice to itself leads to itself
pub stays : (leads : List ℕ) (i : ℕ) → LeadDown leads → i < length leads → twice leads i ≡ i → label_at leads i ≡ i
stays leads i d h e =
    let one = d i h in
    let two = d (label_at leads i) (omega (arith, one, h)) in
    omega (arith, one, two, e)

-- the label of that to which a number leads twice
pub twice_same : (leads labels : List ℕ) (i : ℕ) → LeadDown leads → LeadTo leads labels → i < length leads
    → label_at labels (twice leads i) ≡ label_at labels i
twice_same leads labels i d t h =
    let one = d i h in
    t.along (label_at leads i) (omega (arith, one, h)) ∙ t.along i h

-- a shorter way leads to the same labels
pub shorter : (leads labels : List ℕ) (place : ℕ) → LeadDown leads → place < length leads → LeadTo leads labels
    → LeadTo (slice_set leads place (twice leads place)) labels
shorter leads labels place d h t = record {
  count = t.count ∙ sym (len_set leads place (twice leads place));
  along = λ i l. elim (equal_or_not i place) [
    | inl e ↦ ap (label_at labels) (here i e) ∙ twice_same leads labels place d t h ∙ ap (label_at labels) (sym e)
    | inr n ↦ ap (label_at labels) (there i n) ∙ t.along i (less i l)
  ];
  ends = λ i l e. elim (equal_or_not i place) [
    | inl f ↦ t.ends i (less i l) (subst (λ n. label_at leads n ≡ n) (sym f)
        (stays leads place d h (sym (here i f) ∙ e ∙ f)))
    | inr n ↦ t.ends i (less i l) (sym (there i n) ∙ e)
  ];
}
  where
    less : (i : ℕ) → i < length (slice_set leads place (twice leads place)) → i < length leads
    less i l = subst (λ n. i < n) (len_set leads place (twice leads place)) l

    here : (i : ℕ) → i ≡ place → label_at (slice_set leads place (twice leads place)) i ≡ twice leads place
    here i e =
        ap (λ n. get_or (slice_set leads place (twice leads place)) n 0) e
        ∙ get_or-set_same leads place (twice leads place) 0 h

    there : (i : ℕ) → i ≢ place → label_at (slice_set leads place (twice leads place)) i ≡ label_at leads i
    there i n = get_or-set_other leads place i (twice leads place) 0 n

-- ---- the way down

-- Where a number was found on the way down from another: it leads to `next`, and has the label of the first.
pub record IsOnWay (old leads : List ℕ) (number at next : ℕ) : Type 0 where
  pub count : length leads ≡ length old
  pub down : LeadDown leads
  pub within : at < length leads
  pub below : next ≤ at
  pub kept : (labels : List ℕ) → LeadTo old labels → LeadTo leads labels
  pub next_same : (labels : List ℕ) → LeadTo old labels → label_at labels next ≡ label_at labels number
  pub ends : (labels : List ℕ) → LeadTo old labels → next ≡ at → label_at labels at ≡ at

-- one step
step : (old leads now : List ℕ) (number at next : ℕ) → length leads ≡ length old → LeadDown leads → at < length leads
    → ((labels : List ℕ) → LeadTo old labels → LeadTo leads labels)
    → ((labels : List ℕ) → LeadTo old labels → label_at labels at ≡ label_at labels number)
    → next ≡ twice leads at → now ≡ slice_set leads at (twice leads at) → IsOnWay old now number at next
step old leads now number at next c d h k same e f =
    subst (λ (v : List ℕ). IsOnWay old v number at next) (sym f) (record {
      count = len_set leads at (twice leads at) ∙ c;
      down = shorter_down leads at d h;
      within = subst (λ n. at < n) (sym (len_set leads at (twice leads at))) h;
      below = subst (λ n. n ≤ at) (sym e) (twice_down leads at d h);
      kept = λ labels t. shorter leads labels at d h (k labels t);
      next_same = λ labels t. ap (label_at labels) e ∙ twice_same leads labels at d (k labels t) h ∙ same labels t;
      ends = λ labels t g. (k labels t).ends at h (stays leads at d h (sym e ∙ g));
    })

-- and so are the next two
pub next_step : (old leads now : List ℕ) (number at next further : ℕ) → IsOnWay old leads number at next
    → further ≡ twice leads next → now ≡ slice_set leads next (twice leads next) → IsOnWay old now number next further
next_step old leads now number at next further w e f =
    let l = w.below in
    let h = w.within in
    step old leads now number next further w.count w.down (omega (arith, l, h)) w.kept w.next_same e f

-- ---- a merge

-- the label that a number has where it leads to another label from now on
led : (leads labels : List ℕ) (from to : ℕ) → from < length leads → to < length leads → LeadDown leads →
    LeadTo leads labels
    → label_at labels from ≡ from → label_at labels to ≡ to → LeadTo (slice_set leads from to) (merged from to labels)
led leads labels from to h k d t f g = record {
  count = length-map labels (moved from to) ∙ t.count ∙ sym (len_set leads from to);
  along = λ i l. elim (equal_or_not i from) [
    | inl e ↦
        ap (label_at (merged from to labels)) (here i e) ∙ label_moved from to labels to (in_labels to k)
        ∙ ap (moved from to) g ∙ moved_to from to ∙ sym (new_label i e)
    | inr n ↦
        ap (label_at (merged from to labels)) (there i n) ∙ along_other i n (less i l)
  ];
  ends = λ i l e. elim (equal_or_not i from) [
    | inl d ↦ new_label i d ∙ sym (here i d) ∙ e
    | inr n ↦
        label_moved from to labels i (in_labels i (less i l)) ∙ ap (moved from to)
        (t.ends i (less i l) (sym (there i n) ∙ e))
        ∙ unmoved i n
  ];
}
  where
    less : (i : ℕ) → i < length (slice_set leads from to) → i < length leads
    less i l = subst (λ n. i < n) (len_set leads from to) l

    in_labels : (i : ℕ) → i < length leads → i < length labels
    in_labels i l = subst (λ n. i < n) (sym t.count) l

    here : (i : ℕ) → i ≡ from → label_at (slice_set leads from to) i ≡ to
    here i e = ap (λ n. get_or (slice_set leads from to) n 0) e ∙ get_or-set_same leads from to 0 h

    there : (i : ℕ) → i ≢ from → label_at (slice_set leads from to) i ≡ label_at leads i
    there i n = get_or-set_other leads from i to 0 n

    new_label : (i : ℕ) → i ≡ from → label_at (merged from to labels) i ≡ to
    new_label i e =
        ap (label_at (merged from to labels)) e ∙ label_moved from to labels from (in_labels from h)
        ∙ ap (moved from to) f ∙ moved_is from to

    unmoved : (i : ℕ) → i ≢ from → moved from to i ≡ i
    unmoved i n = by (i == from) refl
      where
        by : (b : Bool) → (i == from) ≡ b → (if b then to else i) ≡ i
        by true e = absurd (n (grind (arith, nat_tests)))
        by false e = refl

    along_other : (i : ℕ) → i ≢ from → i < length leads
        → label_at (merged from to labels) (label_at leads i) ≡ label_at (merged from to labels) i
    along_other i n l =
        let low = d i l in
        label_moved from to labels (label_at leads i) (in_labels (label_at leads i) (omega (arith, low, l)))
        ∙ ap (moved from to) (t.along i l) ∙ sym (label_moved from to labels i (in_labels i l))

-- the first label goes over into the second
pub merged_into_second : (leads labels : List ℕ) (i j a b : ℕ) (apart : Bool) → LeadDown leads → LeadTo leads labels →
    a < length leads
    → b < length leads → a ≡ label_at labels i → b ≡ label_at labels j → label_at labels a ≡ a → label_at labels b ≡ b
    → (apart ≡ false → a ≡ b) → IsMerged i j labels apart (slice_set leads a b)
merged_into_second leads labels i j a b apart d t h k e f m n g = record {
  new = merged a b labels;
  leads_to = led leads labels a b h k d t m n;
  merges = inl (ap₂ (λ x y. merged x y labels) e f);
  same = λ z. sym e ∙ g z ∙ f;
}

-- or the second into the first
pub merged_into_first : (leads labels : List ℕ) (i j a b : ℕ) (apart : Bool) → LeadDown leads → LeadTo leads labels →
    a < length leads
    → b < length leads → a ≡ label_at labels i → b ≡ label_at labels j → label_at labels a ≡ a → label_at labels b ≡ b
    → (apart ≡ false → a ≡ b) → IsMerged i j labels apart (slice_set leads b a)
merged_into_first leads labels i j a b apart d t h k e f m n g = record {
  new = merged b a labels;
  leads_to = led leads labels b a k h d t n m;
  merges = inr (ap₂ (λ x y. merged x y labels) f e);
  same = λ z. sym e ∙ g z ∙ f;
}

-- ---- all labels

-- Where the first places have their labels: the others lead to them.
pub record AreFlatTo (old leads : List ℕ) (k : ℕ) : Type 0 where
  pub count : length leads ≡ length old
  pub down : LeadDown leads
  pub kept : (labels : List ℕ) → LeadTo old labels → LeadTo leads labels
  pub flat : (labels : List ℕ) → LeadTo old labels → (i : ℕ) → i < k → i < length leads
      → label_at leads i ≡ label_at labels i

-- lists of one length with the same numbers
same_numbers : (xs ys : List ℕ) → length ys ≡ length xs → ((i : ℕ) → i < length xs → label_at xs i ≡ label_at ys i)
    → xs ≡ ys
same_numbers [] [] e f = refl
same_numbers [] (y ∷ ys) e f = absurd (omega (arith, e))
same_numbers (x ∷ xs) [] e f = absurd (omega (arith, e))
same_numbers (x ∷ xs) (y ∷ ys) e f =
    ap₂ (λ (z : ℕ) (zs : List ℕ). z ∷ zs) (f 0 (omega arith))
    (same_numbers xs ys (omega (arith, e)) (λ i l. f (suc i) (omega (arith, l))))

-- at the end the numbers are the labels
pub all_flat : (old leads : List ℕ) (k : ℕ) → length leads ≤ k → AreFlatTo old leads k → (labels : List ℕ)
    → LeadTo old labels → leads ≡ labels
all_flat old leads k h a labels t =
    same_numbers leads labels (t.count ∙ sym a.count) (λ i l. a.flat labels t i (omega (arith, l, h)) l)

-- ---- each by itself

-- the label of a number is itself
pub own : (n i : ℕ) → i < n → label_at (range_with_len 0 n) i ≡ i
own n i l = get_or-range_with_len 0 n i 0 l ∙ none_more i
  where
    none_more : (m : ℕ) → 0 + m ≡ m
    none_more m = omega arith

-- a place of so many numbers is below their count
below_count : (n i : ℕ) → i < length (range_with_len 0 n) → i < n
below_count n i l = subst (λ c. i < c) (length-range_with_len 0 n) l

-- so each leads down
pub each_down : (n : ℕ) → LeadDown (range_with_len 0 n)
each_down n i l = let e = own n i (below_count n i l) in omega (arith, e)

-- and to itself
pub each_itself : (n : ℕ) → LeadTo (range_with_len 0 n) (range_with_len 0 n)
each_itself n = record {
  count = refl;
  along = λ i l. ap (label_at (range_with_len 0 n)) (own n i (below_count n i l));
  ends = λ i l e. e;
}
