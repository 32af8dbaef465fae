-- The least cells of buckets in hand, and the first bucket that is not.
use Rattle.std.specs.Prelude.{◌≡◌, refl, ℕ, zero, suc, ◌+◌, ◌*◌, ◌%◌, ◌<◌, ◌≤◌, ◌⊎◌, Bool, true, false, List, [], ◌∷◌}
use Rattle.std.specs.Prelude.{Option, None, Some, IsSome, IfSome, IsTrue, MatchBool, ◌↔◌, length, slice_index_or}
use Rattle.std.specs.declared.cmp.Ordering.{Ordering}
use Rattle.std.specs.declared.cmp.Ordering.TheVariants.{Less, Equal, Greater}
use Rattle.std.proofs.Common.{arith, inl, inr, ap, sym, subst, ◌∙◌}
use Rattle.std.proofs.lemmas.Bool.{false≢true}
use Rattle.list_laws.proofs.Cited.{filtered_true, one_below, round, some_of}
use Rattle.point_order.proofs.Cited.{cell_after, cell_before, cell_same, cell_self}
use Rattle.point_order.specs.declared.cell.Cell.{Cell}
use Rattle.point_order.specs.CellOrder.{cell_cmp}
use Rattle.point_order.specs.Complex.{complex}
use Rattle.point_order.specs.Sets.{IsIn}
use Rattle.del_laws.proofs.Cited.{complex_is_closed_list}
use Rattle.bucket_grid.specs.Grids.{bucket_of}
use Rattle.cell_store.specs.Buckets.{BucketContent, InHand, bucket_at, cells_in}
use Rattle.cell_store.specs.Meshes.{all_cells, HasPlaces}
use Rattle.cell_store.specs.Shares.{Shows}
use Rattle.cell_store.specs.Swaps.{touches}
use Rattle.bucket_grid.proofs.Cited.{bucket_below}
use Rattle.cell_store.proofs.Cited.{cells_of, flat_from, solid_set, touched}
use Rattle.cell_conflict.proofs.Cited.{some_point}
use Rattle.cell_walk.specs.Searching.{IsInside, IsFitting, IsAtMost, IsLessened, IsLeastFitting}
use Rattle.cell_walk.specs.Turns.{HasNoCell}
use Rattle.cell_walk.proofs.Counting.{in_all}

-- ---- the order

-- no cell is before itself
pub not_self : (c : Cell) → cell_cmp c c ≡ Less → ⊥
not_self c e = clash (sym (cell_self c) ∙ e)
  where
    clash : Equal ≡ Less → ⊥
    clash e = cc e

-- what is not before a cell is not before one that the cell is not before
not_before : (d m c : Cell) → ¬ (cell_cmp d m ≡ Less) → ¬ (cell_cmp m c ≡ Less) → ¬ (cell_cmp d c ≡ Less)
not_before d m c a b e = by (cell_cmp c m) refl
  where
    by : (o : Ordering) → cell_cmp c m ≡ o → ⊥
    by Less k = a (cell_before d c m e k)
    by Equal k = a (subst (λ (v : Cell). cell_cmp d v ≡ Less) (cell_same c m k) e)
    by Greater k = b (cell_after c m k)

-- of the least so far
at_most_chain : (o : Option Cell) (c d : Cell) → IfSome o (λ b. ¬ (cell_cmp b c ≡ Less)) → IsAtMost o d →
    ¬ (cell_cmp d c ≡ Less)
at_most_chain None c d a b = absurd b
at_most_chain (Some m) c d a b = not_before d m c b a

-- of two
at_most_both : (o r : Option Cell) (d : Cell) → ((m : Cell) → o ≡ Some m → IsAtMost r m) → IsAtMost o d → IsAtMost r d
at_most_both None r d a b = absurd b
at_most_both (Some m) None d a b = a m refl
at_most_both (Some m) (Some c) d a b = not_before d m c b (a m refl)

-- ---- what fits

-- by the answer for one cell
pub fits_by : (hold : InHand) (inside r : Bool) (c : Cell) → inside ≡ true → IsTrue r ↔ IsInside hold c →
    MatchBool r (IsFitting hold inside c) (IsFitting hold inside c → ⊥)
fits_by hold true true c e g = g.0 refl
fits_by hold true false c e g = λ i. false≢true (g.1 i)
fits_by hold false r c e g = absurd (cc e)

-- where any fits
pub any_fits : (hold : InHand) (inside : Bool) (c : Cell) → inside ≡ false → IsFitting hold inside c
any_fits hold true c e = absurd (cc e)
any_fits hold false c e = tt

-- ---- a bucket

-- the least after the cells of a list, but for the rest of it
pub record IsPartly (hold : InHand) (inside : Bool) (l rest : List Cell) (old new : Option Cell) : Type 0 where
  pub among : (d : Cell) → IsIn d rest → IsIn d l
  pub from : (c : Cell) → new ≡ Some c → (old ≡ Some c) ⊎ (IsIn c l × IsFitting hold inside c)
  pub below : (d : Cell) → IsIn d l → IsIn d rest ⊎ (IsFitting hold inside d → IsAtMost new d)
  pub kept : (d : Cell) → old ≡ Some d → IsAtMost new d

-- before any
pub at_first : (hold : InHand) (inside : Bool) (l rest : List Cell) (old : Option Cell) →
    ((d : Cell) → IsIn d rest → IsIn d l) → ((d : Cell) → IsIn d l → IsIn d rest) → IsPartly hold inside l rest old old
at_first hold inside l rest old f g = record {
  among = f;
  from = λ c e. inl e;
  below = λ d i. inl (g d i);
  kept =
      λ d e. subst (λ (o : Option Cell). IsAtMost o d) (sym e) (not_self d);
}

-- one more that fits
pub one_fits :
    (hold : InHand) (inside : Bool) (l rest m : List Cell) (old best : Option Cell) (x n : Cell) → m ≡ x ∷ rest →
    IsPartly hold inside l m old best → IsFitting hold inside x →
    (best ≡ Some n) ⊎ (x ≡ n) → IfSome best (λ b. ¬ (cell_cmp b n ≡ Less)) → ¬ (cell_cmp x n ≡ Less) →
    IsPartly hold inside l rest old (Some n)
one_fits hold inside l rest m old best x n e k fits one a b = record {
  among = λ d i. k.among d (subst (λ (v : List Cell). IsIn d v) (sym e) (inr i));
  from = λ c i. (let q : n ≡ c = same i in elim one [
    | inl h ↦ k.from c (h ∙ ap Some q)
    | inr h ↦ inr (subst (λ (v : Cell). IsIn v l × IsFitting hold inside v) (h ∙ q)
        (k.among x (subst (λ (v : List Cell). IsIn x v) (sym e) (inl refl)), fits))
  ]);
  below = λ d i. elim (k.below d i) [
    | inl j ↦ elim (subst (λ (v : List Cell). IsIn d v) e j) [
      | inl h ↦ inr (λ f. subst (λ (v : Cell). ¬ (cell_cmp v n ≡ Less)) h b)
      | inr r ↦ inl r
    ]
    | inr f ↦ inr (λ g. at_most_chain best n d a (f g))
  ];
  kept = λ d h. at_most_chain best n d a (k.kept d h);
}
  where
    same : {c d : Cell} → Some c ≡ Some d → c ≡ d
    same e = cc e

-- one more that does not
pub one_not :
    (hold : InHand) (inside : Bool) (l rest m : List Cell) (old best : Option Cell) (x : Cell) → m ≡ x ∷ rest →
    IsPartly hold inside l m old best → ¬ (IsFitting hold inside x) →
    IsPartly hold inside l rest old best
one_not hold inside l rest m old best x e k apart = record {
  among = λ d i. k.among d (subst (λ (v : List Cell). IsIn d v) (sym e) (inr i));
  from = k.from;
  below = λ d i. elim (k.below d i) [
    | inl j ↦ elim (subst (λ (v : List Cell). IsIn d v) e j) [
      | inl h ↦ inr (λ f. absurd (apart (subst (λ (v : Cell). IsFitting hold inside v) (sym h) f)))
      | inr r ↦ inl r
    ]
    | inr f ↦ inr f
  ];
  kept = k.kept;
}

-- all of them
pub at_last : (hold : InHand) (inside : Bool) (l rest : List Cell) (old new : Option Cell) →
    ((d : Cell) → ¬ (IsIn d rest)) → IsPartly hold inside l rest old new → IsLessened hold inside l old new
at_last hold inside l rest old new none k = record {
  from = k.from;
  below = λ d i f. elim (k.below d i) [ inl j ↦ absurd (none d j) | inr g ↦ g f ];
  kept = k.kept;
}

-- ---- all buckets

-- the least of the fitting cells of the first n buckets
pub record IsLeastBelow (hold : InHand) (inside : Bool) (n : ℕ) (best : Option Cell) : Type 0 where
  pub from : (c : Cell) → best ≡ Some c → IsIn c (all_cells hold.places) × IsFitting hold inside c
  pub below : (i : ℕ) → i < n → (d : Cell) → IsIn d (cells_in hold.places i) → IsFitting hold inside d → IsAtMost best d

-- a cell of one of them is one of all
of_bucket : (hold : InHand) (b : ℕ) (c : Cell) → IsIn c (cells_in hold.places b) → IsIn c (all_cells hold.places)
of_bucket hold b c i = by (bucket_at hold.places b) refl i
  where
    by : (o : Option BucketContent) → bucket_at hold.places b ≡ o → IsIn c (cells_of o) → IsIn c (all_cells hold.places)
    by None e j = absurd j
    by (Some x) e j = in_all hold.places b x c e j

-- one more bucket in hand
pub one_bucket : (hold : InHand) (inside : Bool) (b : ℕ) (old new : Option Cell) → IsLeastBelow hold inside b old →
    IsLessened hold inside (cells_in hold.places b) old new → IsLeastBelow hold inside (b + 1) new
one_bucket hold inside b old new k m = record {
  from = λ c e. elim (m.from c e) [ inl h ↦ k.from c h | inr r ↦ (of_bucket hold b c r.0, r.1) ];
  below = λ i l d j f. elim (one_below b i l) [
    | inl h ↦ at_most_both old new d m.kept (k.below i h d j f)
    | inr h ↦ m.below d (subst (λ (v : ℕ). IsIn d (cells_in hold.places v)) h j) f
  ];
}

-- one more that is not
pub no_bucket : (hold : InHand) (inside : Bool) (b : ℕ) (old : Option Cell) → bucket_at hold.places b ≡ None →
    IsLeastBelow hold inside b old → IsLeastBelow hold inside (b + 1) old
no_bucket hold inside b old none k = record {
  from = k.from;
  below = λ i l d j f. elim (one_below b i l) [
    | inl h ↦ k.below i h d j f
    | inr h ↦ absurd (subst (λ (o : Option BucketContent). IsIn d (cells_of o)) (ap (bucket_at hold.places) h ∙ none) j)
  ];
}

-- only below the length of the list there is one
below_length : (l : List (Option BucketContent)) (i : ℕ) (d : Cell) → IsIn d (cells_of (slice_index_or l i None)) →
    i < length l
below_length [] i d j = absurd j
below_length (o ∷ l) zero d j = omega arith
below_length (o ∷ l) (suc i) d j = let r = below_length l i d j in omega (arith, r)

-- all buckets
pub least_of_all : (hold : InHand) (inside : Bool) (n : ℕ) (best : Option Cell) → length hold.places ≤ n →
    IsLeastBelow hold inside n best → IsLeastFitting hold inside best
least_of_all hold inside n best e k = record {
  from = k.from;
  below = λ d i f. (
      let r = flat_from cells_of hold.places None d i in
      let l = below_length hold.places r.0 d r.1 in
      k.below r.0 (omega (arith, e, l)) d r.1 f);
}

-- ---- the first bucket that is not in hand

-- a list without members is empty
pub no_member : (l : List Cell) → ((d : Cell) → ¬ (IsIn d l)) → l ≡ []
no_member [] f = refl
no_member (x ∷ l) f = absurd (f x (inl refl))

-- a round over buckets that are all in hand meets a cell
pub none_missing :
    (hold : InHand) (s : List ℕ) (first count : ℕ) → HasPlaces hold → Shows hold s → HasNoCell hold → first < count →
    count ≡ hold.grid * hold.grid * hold.grid →
    ((i : ℕ) → i < count → IsSome (bucket_at hold.places ((first + i) % count))) → ⊥
none_missing hold s first count has st none f e all =
    let i = solid_set hold s st in
    let k = complex_is_closed_list s i.set.ascending i.set.keys i.solid in
    let p = some_point s i.set.ascending k.some k.has_some in
    let b = bucket_of hold.grid p.0 in
    let l : b < count = subst (λ n. b < n) (sym e) (bucket_below hold.grid p.0 has.size) in
    let r = round first b count f l in
    let x = some_of (bucket_at hold.places b) (in_hand b ((first + r.0) % count) r.2 (all r.0 r.1)) in
    let j = filtered_true (touches hold.grid b) (complex s) k.some k.has_some (touched hold.grid p.0 b k.some refl p.1)
    in
    subst (λ (v : List Cell). IsIn k.some v) none
    (in_all hold.places b x.0 k.some x.1 (subst (λ (v : List Cell). IsIn k.some v) (sym (st.sights b x.0 x.1).cells) j))
  where
    in_hand : (b n : ℕ) → n ≡ b → IsSome (bucket_at hold.places n) → IsSome (bucket_at hold.places b)
    in_hand b n e o = subst (λ m. IsSome (bucket_at hold.places m)) e o
