-- Laws of tables that are gathered point by point.
use Rattle.std.proofs.Common.{◌≡◌, refl, sym, ap, subst, ◌∙◌, ℕ, ◌+◌, ◌<◌, ◌≤◌, ◌⊎◌, inl, inr, true, false, List, []}
use Rattle.std.proofs.Common.{◌∷◌, ◌++◌, map, take, length, get_or, arith}
use Rattle.std.specs.Prelude.{◌↔◌}
use Rattle.std.specs.List.{filter, list_any}
use Rattle.std.specs.List.Sorted.{IsStrictlySortedBy}
use Rattle.std.specs.Cmp.{IsTotalOrder}
use Rattle.std.specs.Ordering.{nat_cmp, is_eq, ordering_then, ordering_reverse}
use Rattle.std.specs.declared.cmp.Ordering.{Ordering}
use Rattle.std.specs.declared.cmp.Ordering.TheVariants.{Less, Equal, Greater}
use Rattle.std.proofs.lemmas.Map.Lookups.{CmpEqualImpliesEq}
use Rattle.std.proofs.lemmas.List.{length-append, length-map, map-append, take_more}
use Rattle.std.proofs.lemmas.List.Elements.{filter-append}
use Rattle.std.proofs.lemmas.Map.Keys.{Less-from_sorted}
use Rattle.list_laws.specs.Lists.{AreDistinct}
use Rattle.list_laws.proofs.Cited.{any_from, any_true, at_most, each_by, from_append, in_left, in_right, is_equal}
use Rattle.list_laws.proofs.Cited.{itself, level, ordered, sorted_append, sorted_none, true_or_false}
use Rattle.point_order.specs.declared.cell.Cell.{Cell}
use Rattle.point_order.specs.Sets.{IsIn}
use Rattle.face_list.specs.declared.around.Gathering.{Gathering}
use Rattle.face_list.specs.declared.table.Table.{Table}
use Rattle.face_list.specs.Around.{AreGathered, BeginsWithin, GathersPoints}
use Rattle.face_list.specs.Gather.{item_cmp, numbers_of, full_keys, items_from, AreItems, is_a_full_cell, GathersItems}
use Rattle.face_list.specs.Tables.{cell_at, stretches, AreStops, IsTable}
use Rattle.face_list.proofs.FaceLists.{items_more}
use Rattle.face_list.proofs.Gathering.{all_numbers, full_from, other_key}
use Rattle.face_list.proofs.Sorting.{item_exact, item_order}

-- ---- how many items there are

-- with the parts of one cell more
pub counted_more :
    {K : Type 0} (parts : Cell → List K) (cells : List Cell) (n : ℕ) (c d : Cell) (count more new : ℕ) →
    n < length cells → get_or cells n d ≡ c →
    count ≡ length (items_from 0 parts (take n cells)) → more ≡ length (parts c) → new ≡ count + more →
    new ≡ length (items_from 0 parts (take (n + 1) cells))
counted_more {K} parts cells n c d count more new h e was m w =
    let front = take n cells in
    let t : take (n + 1) cells ≡ front ++ c ∷ [] = take_more cells n d h ∙ ap (λ (v : Cell). front ++ v ∷ []) e in
    let own = map (λ (p : K). (p, 0 + length front)) (parts c) in
    let a : length (items_from 0 parts (take (n + 1) cells)) ≡ length (items_from 0 parts front) + length own
    = ap (λ l. length (items_from 0 parts l)) t ∙ ap length (items_more parts 0 front c)
    ∙ length-append (items_from 0 parts front) own in
    let b : length own ≡ length (parts c) = length-map (parts c) (λ (p : K). (p, 0 + length front)) in
    omega (arith, a, b, was, m, w)

-- ---- two lists of items, the keys of the first before those of the second

-- the numbers of a key in both
numbers_append : {K : Type 0} (cmp : K → K → Ordering) (l m : List (K × ℕ)) (k : K) →
    numbers_of cmp (l ++ m) k ≡ numbers_of cmp l k ++ numbers_of cmp m k
numbers_append {K} cmp l m k =
    ap (map (λ (i : K × ℕ). i.1)) (filter-append (λ (i : K × ℕ). is_eq (cmp i.0 k)) l m)
    ∙ map-append (λ (i : K × ℕ). i.1) (filter (λ (i : K × ℕ). is_eq (cmp i.0 k)) l)
    (filter (λ (i : K × ℕ). is_eq (cmp i.0 k)) m)

-- the keys of Full cells in both
full_append : {K : Type 0} (cells : List Cell) (l m : List (K × ℕ)) → full_keys cells (l ++ m) ≡ full_keys cells l
    ++ full_keys cells m
full_append {K} cells l m =
    ap (map (λ (i : K × ℕ). i.0)) (filter-append (λ (i : K × ℕ). is_a_full_cell (cell_at cells i.1)) l m)
    ∙ map-append (λ (i : K × ℕ). i.0) (filter (λ (i : K × ℕ). is_a_full_cell (cell_at cells i.1)) l)
    (filter (λ (i : K × ℕ). is_a_full_cell (cell_at cells i.1)) m)

-- where no item has the key there is no number
no_number : {K : Type 0} (cmp : K → K → Ordering) (l : List (K × ℕ)) (k : K) →
    ((i : K × ℕ) → IsIn i l → is_eq (cmp i.0 k) ≡ false) → numbers_of cmp l k ≡ []
no_number cmp [] k f = refl
no_number cmp (i ∷ l) k f = other_key cmp i l k (cmp i.0 k) refl (f i (inl refl))
    ∙ no_number cmp l k (λ j m. f j (inr m))

-- what is the same of each member
same_map : {X Y : Type 0} (f g : X → Y) (l : List X) → ((x : X) → IsIn x l → f x ≡ g x) → map f l ≡ map g l
same_map f g [] h = refl
same_map {X} {Y} f g (x ∷ l) h = ap (λ (y : Y). y ∷ map f l) (h x (inl refl))
    ∙ ap (λ (v : List Y). g x ∷ v) (same_map f g l (λ y m. h y (inr m)))

-- a list with nothing behind it is that list
without_end : {X : Type 0} (l : List X) → l ++ [] ≡ l
without_end [] = refl
without_end {X} (x ∷ l) = ap (λ (m : List X). x ∷ m) (without_end l)

-- the numbers of the keys of either are its own
both_lists :
    {K : Type 0} (cmp : K → K → Ordering) (o : IsTotalOrder cmp) (cells : List Cell) (l m : List (K × ℕ))
    (ks new : List K) →
    ((i j : K × ℕ) → IsIn i l → IsIn j m → cmp i.0 j.0 ≡ Less) →
    ((k : K) → IsIn k ks → IsIn k (full_keys cells l)) → ((k : K) → IsIn k new → IsIn k (full_keys cells m)) →
    map (numbers_of cmp (l ++ m)) (ks ++ new) ≡ map (numbers_of cmp l) ks ++ map (numbers_of cmp m) new
both_lists {K} cmp o cells l m ks new apart old_keys new_keys =
    map-append (numbers_of cmp (l ++ m)) ks new
    ∙ ap (λ (v : List (List ℕ)). v ++ map (numbers_of cmp (l ++ m)) new)
    (same_map (numbers_of cmp (l ++ m)) (numbers_of cmp l) ks first)
    ∙ ap (λ (v : List (List ℕ)). map (numbers_of cmp l) ks ++ v)
    (same_map (numbers_of cmp (l ++ m)) (numbers_of cmp m) new second)
  where
    first : (k : K) → IsIn k ks → numbers_of cmp (l ++ m) k ≡ numbers_of cmp l k
    first k i =
        let f = full_from cells l k (old_keys k i) in
        let e = no_number cmp m k (λ j n. ap is_eq (o.antisymm j.0 k ∙ ap ordering_reverse (apart (k, f.0) j f.1 n))) in
        numbers_append cmp l m k ∙ ap (λ (v : List ℕ). numbers_of cmp l k ++ v) e ∙ without_end (numbers_of cmp l k)

    second : (k : K) → IsIn k new → numbers_of cmp (l ++ m) k ≡ numbers_of cmp m k
    second k i =
        let f = full_from cells m k (new_keys k i) in
        let e = no_number cmp l k (λ j n. ap is_eq (apart j (k, f.0) n f.1)) in
        numbers_append cmp l m k ∙ ap (λ (v : List ℕ). v ++ numbers_of cmp m k) e

-- ---- what is gathered

-- nothing yet
pub gathered_none :
    {K : Type 0} (cmp : K → K → Ordering) (cells : List Cell) (all : List (K × ℕ)) (W : K → Type 0) (g : Gathering K) →
    g.table.keys.items ≡ [] → g.table.ends.items ≡ [] → g.table.numbers.items ≡ [] → 0 ≡ g.count →
    AreGathered cmp cells all W g
gathered_none {K} cmp cells all W g k e n c = record {
  sorted = [];
  order = sorted_none (item_cmp cmp);
  sound = λ i m. absurd m;
  ranged = λ i m. absurd m;
  counted = c;
  keys_order = subst (IsStrictlySortedBy cmp) (sym k) (sorted_none cmp);
  keys = λ x. (λ m. subst (IsIn x) k m, λ m. absurd m);
  ends = ap length e ∙ sym (ap length k);
  stops = rw (n, e) refl;
  lists = rw (n, e, k) refl;
  numbers = λ i m. subst (IsIn i) n m;
}

-- with some items more, the keys of which come behind the others
pub gathered_more :
    {K : Type 0} (cmp : K → K → Ordering) (o : IsTotalOrder cmp) (cells : List Cell) (all : List (K × ℕ))
    (W V : K → Type 0) (g h : Gathering K) (items : List (K × ℕ)) (new : List K) →
    AreGathered cmp cells all W g →
    IsStrictlySortedBy (item_cmp cmp) items → ((i : K × ℕ) → IsIn i items → IsIn i all) →
    ((i : K × ℕ) → IsIn i items → V i.0) → ((k : K) → W k → V k) →
    ((k : K) (j : K × ℕ) → W k → IsIn j items → cmp k j.0 ≡ Less) →
    IsStrictlySortedBy cmp new → ((k : K) → IsIn k new ↔ IsIn k (full_keys cells items)) →
    h.table.keys.items ≡ g.table.keys.items ++ new → length h.table.ends.items ≡ length g.table.ends.items + length
    new →
    AreStops 0 (length h.table.numbers.items) h.table.ends.items →
    stretches h.table.numbers.items 0 h.table.ends.items ≡ stretches g.table.numbers.items 0 g.table.ends.items
    ++ map (numbers_of cmp items) new →
    ((n : ℕ) → IsIn n h.table.numbers.items → IsIn n g.table.numbers.items ⊎ IsIn n (map (λ i. i.1) items)) →
    h.count ≡ g.count + length items → AreGathered cmp cells all V h
gathered_more {K} cmp o cells all W V g h items new was order sound ranged wider later keys_order keys keys_are ends_are
    stops lists_are numbers counted =
    let old = was.sorted in
    let apart : (i j : K × ℕ) → IsIn i old → IsIn j items → cmp i.0 j.0 ≡ Less =
    λ i j m n. later i.0 j (was.ranged i m) n in
    let w = was.ends in
    let k = ap length keys_are ∙ length-append g.table.keys.items new in
    let s = was.counted in
    record {
      sorted = old ++ items;
      order = sorted_append (item_cmp cmp) old items was.order order
          (λ i j m n. ap (λ r. ordering_then r (nat_cmp i.1 j.1)) (apart i j m n));
      sound = λ i m. elim (from_append i old items m) [ inl n ↦ was.sound i n | inr n ↦ sound i n ];
      ranged = λ i m. elim (from_append i old items m) [ inl n ↦ wider i.0 (was.ranged i n) | inr n ↦ ranged i n ];
      counted = length-append old items ∙ omega (arith, s, counted);
      keys_order = subst (IsStrictlySortedBy cmp) (sym keys_are) (sorted_append cmp g.table.keys.items new
          was.keys_order keys_order (λ a b m n. (
          let i = full_from cells old a ((was.keys a).0 m) in
          let j = full_from cells items b ((keys b).0 n) in
          apart (a, i.0) (b, j.0) i.1 j.1)));
      keys = λ x. (
        λ m. subst (IsIn x) (sym (full_append cells old items)) (elim
            (from_append x g.table.keys.items new (subst (IsIn x) keys_are m)) [
              | inl n ↦ in_left x (full_keys cells old) (full_keys cells items) ((was.keys x).0 n)
              | inr n ↦ in_right x (full_keys cells old) (full_keys cells items) ((keys x).0 n)
            ]),
        λ m. subst (IsIn x) (sym keys_are) (elim
            (from_append x (full_keys cells old) (full_keys cells items)
            (subst (IsIn x) (full_append cells old items) m)) [
              | inl n ↦ in_left x g.table.keys.items new ((was.keys x).1 n)
              | inr n ↦ in_right x g.table.keys.items new ((keys x).1 n)
            ]),
      );
      ends = omega (arith, ends_are, w, k);
      stops = stops;
      lists = lists_are ∙ ap (λ v. v ++ map (numbers_of cmp items) new) was.lists
          ∙ sym (both_lists cmp o cells old items g.table.keys.items new apart (λ x. (was.keys x).0) (λ x. (keys x).0))
          ∙ ap (map (numbers_of cmp (old ++ items))) (sym keys_are);
      numbers = λ n m. subst (IsIn n) (sym (map-append (λ (i : K × ℕ). i.1) old items)) (elim (numbers n m) [
        | inl i ↦ in_left n (map (λ (i : K × ℕ). i.1) old) (map (λ (i : K × ℕ). i.1) items) (was.numbers n i)
        | inr i ↦ in_right n (map (λ (i : K × ℕ). i.1) old) (map (λ (i : K × ℕ). i.1) items) i
      ]);
    }

-- what was gathered of two, the keys of the first before those of the second
pub gathered_both :
    {K : Type 0} (cmp : K → K → Ordering) (o : IsTotalOrder cmp) (cells : List Cell) (all : List (K × ℕ))
    (W V U : K → Type 0) (g h both : Gathering K) →
    AreGathered cmp cells all W g → AreGathered cmp cells all V h → ((k : K) → W k → U k) → ((k : K) → V k → U k) →
    ((k l : K) → W k → V l → cmp k l ≡ Less) →
    both.table.keys.items ≡ g.table.keys.items ++ h.table.keys.items →
    length both.table.ends.items ≡ length g.table.ends.items + length h.table.ends.items →
    AreStops 0 (length both.table.numbers.items) both.table.ends.items →
    stretches both.table.numbers.items 0 both.table.ends.items ≡ stretches g.table.numbers.items 0 g.table.ends.items
    ++ stretches h.table.numbers.items 0 h.table.ends.items →
    both.table.numbers.items ≡ g.table.numbers.items ++ h.table.numbers.items →
    both.count ≡ g.count + h.count → AreGathered cmp cells all U both
gathered_both {K} cmp o cells all W V U g h both first second wider_first wider_second later keys_are ends_are stops
    lists_are numbers_are counted =
    let e = second.ends in
    let s = second.counted in
    gathered_more cmp o cells all W U g both second.sorted h.table.keys.items first second.order second.sound
    (λ i m. wider_second i.0 (second.ranged i m)) wider_first (λ k j w m. later k j.0 w (second.ranged j m))
    second.keys_order second.keys keys_are (omega (arith, ends_are, e)) stops
    (lists_are ∙ ap (λ (v : List (List ℕ)). stretches g.table.numbers.items 0 g.table.ends.items ++ v) second.lists)
    (λ n m. elim (from_append n g.table.numbers.items h.table.numbers.items (subst (IsIn n) numbers_are m)) [
      | inl i ↦ inl i
      | inr i ↦ inr (second.numbers n i)
    ])
    (omega (arith, counted, s))

-- numbers in order rise
pub later_above : (xs : List ℕ) (n j : ℕ) → IsStrictlySortedBy nat_cmp xs → n < j → j < length xs →
    get_or xs n 0 < get_or xs j 0
later_above xs n j s h l = (
    let less = Less-from_sorted nat_cmp xs n j 0 s h l in
    elim (ordered (get_or xs n 0) (get_or xs j 0)) [
      | inl a ↦ a.0
      | inr b ↦ elim b [
        | inl a ↦ absurd (other Equal (sym a.1 ∙ less) (λ e. cc))
        | inr a ↦
            absurd (other Greater (sym a.1 ∙ less) (λ e. cc))
      ]
    ])
  where
    other : (r : Ordering) → r ≡ Less → (r ≡ Less → ⊥) → ⊥
    other r e f = f e

-- ---- all items

-- in a strict order each stands once
sorted_distinct : {X : Type 0} (cmp : X → X → Ordering) (o : IsTotalOrder cmp) (l : List X) → IsStrictlySortedBy cmp l →
    AreDistinct l
unfolding IsStrictlySortedBy
sorted_distinct cmp o [] s = tt
sorted_distinct cmp o (x ∷ l) s = (
  λ m. itself cmp o x (each_by (λ y. cmp x y ≡ Less) l s.0 x m),
  sorted_distinct cmp o l s.1,
)

-- what is in order and as long as a list of which it has members has all of them
has_all :
    {X : Type 0} (cmp : X → X → Ordering) (o : IsTotalOrder cmp) (exact : CmpEqualImpliesEq cmp) (l all : List X) →
    IsStrictlySortedBy cmp l → ((x : X) → IsIn x l → IsIn x all) →
    length l ≡ length all → (x : X) → IsIn x all → IsIn x l
has_all {X} cmp o exact l all s f e x m = elim (true_or_false (list_any (λ y. is_eq (cmp y x)) l)) [
  | inl t ↦ (let r = any_from (λ y. is_eq (cmp y x)) l t in subst (λ v. IsIn v l)
      (exact r.0 x (is_equal (cmp r.0 x) r.2)) r.1)
  | inr t ↦ (
      let none : IsIn x l → ⊥ = λ i. (let n : true ≡ false = sym
      (any_true (λ y. is_eq (cmp y x)) l x i (ap is_eq (level cmp o x))) ∙ t in cc) in
      let longer = at_most (x ∷ l) all (none, sorted_distinct cmp o l s)
      (λ y i. elim i [ inl q ↦ subst (λ v. IsIn v all) q m | inr n ↦ f y n ]) in
      absurd (omega (arith, longer, e)))
]

-- where all items were added the table gathers them
pub gathered_all :
    {K : Type 0} (cmp : K → K → Ordering) (o : IsTotalOrder cmp) (exact : CmpEqualImpliesEq cmp) (cells : List Cell)
    (all : List (K × ℕ)) (W : K → Type 0) (g : Gathering K) →
    AreGathered cmp cells all W g → g.count ≡ length all → GathersItems cmp cells all g.table
gathered_all cmp o exact cells all W g a e = record {
  sorted = a.sorted;
  order = a.order;
  same = λ i. (
    a.sound i,
    has_all (item_cmp cmp) (item_order o) (item_exact exact) a.sorted all a.order a.sound
        (a.counted ∙ e) i,
  );
  keys_order = a.keys_order;
  keys = a.keys;
  lists = a.lists;
}

-- what was gathered is a table
pub gathered_table :
    {K : Type 0} (cmp : K → K → Ordering) (cells : List Cell) (all : List (K × ℕ)) (W : K → Type 0) (g : Gathering K) →
    AreItems (length cells) all → AreGathered cmp cells all W g → IsTable (length cells) g.table
gathered_table cmp cells all W g names a = record {
  ends = a.ends;
  stops = a.stops;
  numbers = all_numbers (length cells) all a.sorted g.table.numbers.items names a.sound a.numbers;
}

-- ---- ranges of points

-- in a wider range
pub begins_wider :
    {K : Type 0} (first_of : K → ℕ) (points : List ℕ) (from to low high : ℕ) (k : K) → low ≤ from → to ≤ high →
    BeginsWithin first_of points from to k → BeginsWithin first_of points low high k
begins_wider first_of points from to low high k f t b =
    let n = b.not_before in
    let m = b.before in
    record { index = b.index; not_before = omega (arith, f, n); before = omega (arith, t, m); is = b.is }

-- what begins with an earlier point has a lesser one
pub begins_lesser :
    {K : Type 0} (first_of : K → ℕ) (points : List ℕ) (from middle to : ℕ) (k l : K) →
    IsStrictlySortedBy nat_cmp points → to ≤ length points →
    BeginsWithin first_of points from middle k → BeginsWithin first_of points middle to l → first_of k < first_of l
begins_lesser first_of points from middle to k l s w b c =
    let m = b.before in
    let n = c.not_before in
    let p = c.before in
    let a = later_above points b.index c.index s (omega (arith, m, n)) (omega (arith, p, w)) in
    omega (arith, a, b.is, c.is)

-- by equal indices
pub gathers_as :
    {K : Type 0} (cmp : K → K → Ordering) (parts_of : Cell → List K) (first_of : K → ℕ) (cells : List Cell)
    (points : Table ℕ) (from to low high : ℕ) (g : Gathering K) → from ≡ low → to ≡ high →
    GathersPoints cmp parts_of first_of cells points from to g →
    GathersPoints cmp parts_of first_of cells points low high g
gathers_as cmp parts_of first_of cells points from to low high g e f a =
    subst (λ (v : ℕ). GathersPoints cmp parts_of first_of cells points v high g) e
    (subst (λ (v : ℕ). GathersPoints cmp parts_of first_of cells points from v g) f a)

-- by its own indices
pub gathers_own :
    {K : Type 0} (cmp : K → K → Ordering) (parts_of : Cell → List K) (first_of : K → ℕ) (cells : List Cell)
    (points : Table ℕ) (from to : ℕ) (g : Gathering K) →
    GathersPoints cmp parts_of first_of cells points from to g →
    GathersPoints cmp parts_of first_of cells points g.from g.to g
gathers_own cmp parts_of first_of cells points from to g a =
    gathers_as cmp parts_of first_of cells points from to g.from g.to g (sym a.begin) (sym a.end) a
