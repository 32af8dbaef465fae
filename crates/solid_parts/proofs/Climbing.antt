-- Links taken one after another, as far as their alphas are at most a number.
use Rattle.std.proofs.Common.{◌≡◌, ◌≢◌, refl, sym, subst, ap, ◌∙◌, ℕ, zero, suc, ◌<◌, ◌≤◌, ◌+◌, inl, inr, Bool, true}
use Rattle.std.proofs.Common.{false, List, [], ◌∷◌, ◌++◌, length, arith, nat_le}
use Rattle.std.specs.Prelude.{◌⊎◌, ◌==◌, IsPermutation, cond, if◌then◌else◌}
use Rattle.std.specs.List.{AllWithin, filter, range_with_len}
use Rattle.std.specs.List.Sorted.{IsPartitionPoint}
use Rattle.std.proofs.lemmas.Bool.{cases_lt}
use Rattle.std.proofs.lemmas.Bool.Decides.{nat_tests}
use Rattle.std.proofs.lemmas.List.{length-append, length-map}
use Rattle.std.proofs.lemmas.List.Sorted.{sum_by-IsPermutation}
use Rattle.std.proofs.lemmas.List.Sums.{length-filter}
use Rattle.std.proofs.lemmas.List.FromFn.{get_or-range_with_len, length-range_with_len}
use Rattle.list_laws.specs.Lists.{IsIn}
use Rattle.list_laws.proofs.Cited.{at_most, counted_below, distinct_ascending, distinct_filter, filtered_from}
use Rattle.list_laws.proofs.Cited.{filtered_true, in_left, in_right, range_ascending}
use Rattle.solid_parts.specs.declared.links.Link.{Link}
use Rattle.solid_parts.specs.declared.climb.Climb.{Climb}
use Rattle.solid_parts.specs.Groups.{AreMerged, AreTogether, IsMerged, LeadDown, LeadTo, label_at, merged, moved}
use Rattle.solid_parts.specs.Links.{AreLinksBelow, ClimbsTo, IsClimbed, IsBounded, count_to, link_at, own_count}
use Rattle.solid_parts.proofs.Leading.{each_itself, equal_or_not}
use Rattle.solid_parts.proofs.Merging.{label_moved, merges}

-- ---- own labels

-- the number is its own label
is_own : List ℕ → ℕ → Bool
is_own labels i = label_at labels i == i

-- a number that is its own label passes the test
own_true : (labels : List ℕ) (i : ℕ) → label_at labels i ≡ i → is_own labels i ≡ true
unfolding is_own
own_true labels i e = grind (arith, nat_tests)

-- and one that passes is
own_from : (labels : List ℕ) (i : ℕ) → is_own labels i ≡ true → label_at labels i ≡ i
unfolding is_own
own_from labels i e = grind (arith, nat_tests)

-- numbers that were their own labels still are, but for some
own_but : (old new extra : List ℕ) → length new ≡ length old
    → ((i : ℕ) → i < length old → label_at old i ≡ i → IsIn i extra ⊎ (label_at new i ≡ i)) →
    own_count old ≤ length extra + own_count new
unfolding is_own
own_but old new extra e f =
    let n = length old in
    let own = filter (is_own new) (range_with_len 0 (length new)) in
    let most = at_most (filter (is_own old) (range_with_len 0 n)) (extra ++ own)
    (distinct_filter (is_own old) (range_with_len 0 n) (distinct_ascending (range_with_len 0 n) (range_ascending 0 n)))
    (λ i j.
    let r = filtered_from (is_own old) (range_with_len 0 n) i j in
    elim (f i (from_none n i (counted_below 0 n i r.0)) (own_from old i r.1)) [
      | inl k ↦ in_left i extra own k
      | inr g ↦ in_right i extra own (filtered_true (is_own new) (range_with_len 0 (length new)) i
          (subst (λ m. IsIn i (range_with_len 0 m)) (sym e) r.0) (own_true new i g))
    ]) in
    subst (λ m. own_count old ≤ m) (length-append extra own) most
  where
    from_none : (m i : ℕ) → i < 0 + m → i < m
    from_none m i l = omega (arith, l)

-- a label other than the one that goes over stays
unmoved : (from to i : ℕ) → i ≢ from → moved from to i ≡ i
unmoved from to i n = by (i == from) refl
  where
    by : (b : Bool) → (i == from) ≡ b → (if b then to else i) ≡ i
    by true e = absurd (n (grind (arith, nat_tests)))
    by false e = refl

-- where a label goes over into itself all stay
onto_itself : (from to i : ℕ) → from ≡ to → moved from to i ≡ i
onto_itself from to i f = by (i == from) refl
  where
    by : (b : Bool) → (i == from) ≡ b → (if b then to else i) ≡ i
    by true e = grind (arith, nat_tests)
    by false e = refl

-- how many are left after one label goes over into another
left_after : (labels : List ℕ) (from to : ℕ) → own_count labels ≤ 1 + own_count (merged from to labels)
left_after labels from to =
    own_but labels (merged from to labels) (from ∷ []) (length-map labels (moved from to))
    (λ i l e. elim (equal_or_not i from) [
      | inl f ↦ inl (inl (sym f))
      | inr n ↦ inr (label_moved from to labels i l ∙ ap (moved from to) e ∙ unmoved from to i n)
    ])

-- and where it was the same
same_after : (labels : List ℕ) (from to : ℕ) → from ≡ to → own_count labels ≤ own_count (merged from to labels)
same_after labels from to f =
    let most = own_but labels (merged from to labels) [] (length-map labels (moved from to))
    (λ i l e. inr (label_moved from to labels i l ∙ ap (moved from to) e ∙ onto_itself from to i f)) in
    omega (arith, most)

-- after a merge
own_left : (i j : ℕ) (labels new : List ℕ) → AreMerged i j labels new → own_count labels ≤ 1 + own_count new
own_left i j labels new (inl e) =
    subst (λ (v : List ℕ). own_count labels ≤ 1 + own_count v) (sym e)
    (left_after labels (label_at labels i) (label_at labels j))
own_left i j labels new (inr e) =
    subst (λ (v : List ℕ). own_count labels ≤ 1 + own_count v) (sym e)
    (left_after labels (label_at labels j) (label_at labels i))

-- where the two had one label none is lost
own_same : (i j : ℕ) (labels new : List ℕ) → AreMerged i j labels new → AreTogether labels i j →
    own_count labels ≤ own_count new
own_same i j labels new (inl e) t =
    subst (λ (v : List ℕ). own_count labels ≤ own_count v) (sym e)
    (same_after labels (label_at labels i) (label_at labels j) t)
own_same i j labels new (inr e) t =
    subst (λ (v : List ℕ). own_count labels ≤ own_count v) (sym e)
    (same_after labels (label_at labels j) (label_at labels i) (sym t))

-- ---- one link more

-- one more where the two were apart
abbrev pub added : Bool → ℕ
added apart = if apart then 1 else 0

-- with the merges counted, the labels that are left are as many as the numbers, or more
count_after : (apart : Bool) (i j : ℕ) (labels new : List ℕ) (count : ℕ) → length new ≡ length labels →
    AreMerged i j labels new
    → (apart ≡ false → AreTogether labels i j) → length labels ≤ own_count labels + count →
    length new ≤ own_count new + (count + added apart)
count_after true i j labels new count e m f l = let k = own_left i j labels new m in omega (arith, e, l, k)
count_after false i j labels new count e m f l = let k = own_same i j labels new m (f refl) in omega (arith, e, l, k)

module _ (links : List Link) (climb : Climb) (labels leads : List ℕ) (apart : Bool) (within : climb.next < length links)
    (below : AreLinksBelow (length labels) links) (m : IsMerged (link_at links climb.next).one
    (link_at links climb.next).other labels apart leads)
    (c : IsClimbed links climb labels) where
  -- the two cells of a link are numbers with labels
  inside : (t : ℕ) → t < length links → ((link_at links t).one < length labels) ×
      ((link_at links t).other < length labels)
  inside t l = below t (record { alpha = 0; one = 0; other = 0 }) l

  -- with the next link taken, the labels are those of the links so far
  pub climb_more : (now : Climb) → now.next ≡ climb.next + 1 → now.merges ≡ climb.merges + added apart →
      IsClimbed links now m.new
  climb_more now e f =
      let z = merges _ _ labels m.new m.merges in
      let here = inside climb.next within in
      record {
        together = λ t l. elim (cases_lt t climb.next) [
          | inl k ↦
              let i = inside t (omega (arith, k, within)) in
              z.kept _ _ i.0 i.1 (c.together t k)
          | inr k ↦ subst (λ t. AreTogether m.new (link_at links t).one (link_at links t).other) (last t l k e)
              (z.both here.0 here.1)
        ];
        counted = subst (λ n. length m.new ≤ own_count m.new + n) (sym f)
            (count_after apart _ _ labels m.new climb.merges z.count m.merges m.same c.counted);
      }
    where
      last : (t : ℕ) → t < now.next → climb.next ≤ t → now.next ≡ climb.next + 1 → climb.next ≡ t
      last t l k g = omega (arith, l, k, g)

-- ---- as the loop tells it

-- where some links were taken
pub record ClimbSoFar (old leads : List ℕ) (links : List Link) (climb now : Climb) : Type 0 where
  pub count : length leads ≡ length old
  pub within : IsBounded links now
  pub down : LeadDown leads
  pub climbs : (labels : List ℕ) → LeadTo old labels → IsClimbed links climb labels → ClimbsTo links now leads

-- before the first link nothing is taken
pub none_climbed : (leads : List ℕ) (links : List Link) (climb : Climb) → IsBounded links climb → LeadDown leads
    → ClimbSoFar leads leads links climb climb
none_climbed leads links climb w d = record {
  count = refl;
  within = w;
  down = d;
  climbs = λ labels t c. record { labels = labels; leads_to = t; climbed = c };
}

-- the next link is taken, and counted where its two were apart
pub one_taken : (old leads new : List ℕ) (links : List Link) (climb now more : Climb) (apart : Bool) →
    now.next < length links
    → AreLinksBelow (length old) links → more.next ≡ now.next + 1 → more.merges ≡ now.merges + added apart
    → length new ≡ length leads → LeadDown new → ((labels : List ℕ) → LeadTo leads labels →
    IsMerged (link_at links now.next).one (link_at links now.next).other labels apart new)
    → ClimbSoFar old leads links climb now → ClimbSoFar old new links climb more
one_taken old leads new links climb now more apart h below f g c d m s = record {
  count = c ∙ s.count;
  within = (subst (λ n. n ≤ length links) (sym f) (omega (arith, h)), few apart s.within.1 g);
  down = d;
  climbs = λ labels t k.
      let r = s.climbs labels t k in
      let z = m r.labels r.leads_to in
      record {
        labels = z.new;
        leads_to = z.leads_to;
        climbed = climb_more links now r.labels new apart h
            (subst (λ n. AreLinksBelow n links) (sym (r.leads_to.count ∙ s.count)) below) z r.climbed more f g;
      };
}
  where
    few : (b : Bool) → now.merges ≤ now.next → more.merges ≡ now.merges + added b → more.merges ≤ more.next
    few true k n = omega (arith, f, k, n)
    few false k n = omega (arith, f, k, n)

-- ---- numbers in order

-- where those before a place pass and the others do not, so many pass
passing : (p : ℕ → Bool) (xs : List ℕ) (i : ℕ) → i ≤ length xs → AllWithin (λ y. p y ≡ true) xs 0 i
    → AllWithin (λ y. p y ≡ false) xs i (length xs) → i ≡ length (filter p xs)
passing p [] i h t f = omega (arith, h)
passing p (x ∷ xs) zero h t f =
    let e : p x ≡ false = f 0 x (omega arith) (omega arith) in
    let r = passing p xs 0 (omega arith) (λ k d l m. absurd (omega (arith, m)))
    (λ k d l m. f (suc k) d (omega arith) (omega (arith, m))) in
    rw e r
passing p (x ∷ xs) (suc i) h t f =
    let e : p x ≡ true = t 0 x (omega arith) (omega arith) in
    let r = passing p xs i (omega (arith, h)) (λ k d l m. t (suc k) d (omega arith) (omega (arith, m)))
    (λ k d l m. f (suc k) d (omega (arith, l)) (omega (arith, m))) in
    rw e (ap suc r)

-- where the numbers up to a place are at most alpha and the others are not, so many are
pub counted_to : (numbers : List ℕ) (alpha i : ℕ) → i ≤ length numbers
    → IsPartitionPoint (λ y. nat_le y alpha ≡ true) (λ y. nat_le y alpha ≡ false) numbers i → i ≡ count_to numbers alpha
counted_to numbers alpha i h p =
    passing (λ n. nat_le n alpha) numbers i h p.0 p.1 ∙ length-filter (λ n. nat_le n alpha) numbers

-- in another order as many are at most a number
pub sorted_count : (xs ys : List ℕ) → IsPermutation xs ys → (alpha : ℕ) → count_to ys alpha ≡ count_to xs alpha
sorted_count xs ys p alpha = sum_by-IsPermutation (λ n. cond (nat_le n alpha) 1 0) xs ys p

-- ---- before the first link

-- before the first link each number is its own label
pub first_climb : (links : List Link) (n : ℕ) → ClimbsTo links (record { next = 0; merges = 0 }) (range_with_len 0 n)
first_climb links n = record {
  labels = range_with_len 0 n;
  leads_to = each_itself n;
  climbed = record { together = λ t l. absurd (omega (arith, l)); counted = all_own };
}
  where
    own_label : (i : ℕ) → i < 0 + n → label_at (range_with_len 0 n) i ≡ i
    own_label i l = let e = get_or-range_with_len 0 n i 0 (omega (arith, l)) in omega (arith, e)

    test : (a b : ℕ) → a ≡ b → (a == b) ≡ true
    test a b e = grind (arith, nat_tests)

    all_own : length (range_with_len 0 n) ≤ own_count (range_with_len 0 n) + 0
    all_own =
        let all = length-range_with_len 0 n in
        let most = at_most (range_with_len 0 n) (filter (λ i. label_at (range_with_len 0 n) i == i)
        (range_with_len 0 n))
        (distinct_ascending (range_with_len 0 n) (range_ascending 0 n))
        (λ i j. filtered_true (λ i. label_at (range_with_len 0 n) i == i) (range_with_len 0 n) i j
        (test (label_at (range_with_len 0 n) i) i (own_label i (counted_below 0 n i j)))) in
        let same = ap (λ m. length (filter (λ i. label_at (range_with_len 0 n) i == i) (range_with_len 0 m))) all in
        omega (arith, most, same)
