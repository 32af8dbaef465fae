-- The lists of faces: what is gathered under the parts of cells are the faces, each with its cells.
use Rattle.std.proofs.Common.{◌≡◌, refl, sym, ap, subst, ◌∙◌, ℕ, zero, suc, ◌+◌, ◌<◌, inl, inr, Bool, true, false, cond}
use Rattle.std.proofs.Common.{List, [], ◌∷◌, ◌++◌, map, take, length, get_or, arith, append_assoc}
use Rattle.std.specs.List.{filter, list_all}
use Rattle.std.specs.List.Sorted.{IsStrictlySortedBy}
use Rattle.std.specs.Cmp.{IsTotalOrder}
use Rattle.std.specs.Ordering.{nat_cmp}
use Rattle.std.specs.Cmp.Lexicographic.{slice_cmp}
use Rattle.std.specs.declared.cmp.Ordering.{Ordering}
use Rattle.std.specs.declared.cmp.Ordering.TheVariants.{Less}
use Rattle.std.proofs.lemmas.Cmp.{nat_cmp_total, nat_list_cmp_total}
use Rattle.std.proofs.lemmas.Map.Lookups.{CmpEqualImpliesEq, exact_unsigned, exact_bytes}
use Rattle.std.proofs.lemmas.List.{map-append, take_more}
use Rattle.list_laws.proofs.Cited.{all_by, all_from, all_true, among_from, among_true, at_in, cmp_less, contains_in}
use Rattle.list_laws.proofs.Cited.{from_append, in_left, in_right, mapped_from, mapped_true, one_order}
use Rattle.point_order.specs.declared.cell.Cell.{Cell}
use Rattle.point_order.specs.declared.cell.Cell.TheVariants.{Full, Open}
use Rattle.point_order.specs.Facets.{points_of}
use Rattle.point_order.specs.Sets.{IsIn, IsAscending, is_among}
use Rattle.point_order.specs.Subsets.{subsets}
use Rattle.del_laws.proofs.Cited.{part_ascending, part_inside, part_true}
use Rattle.face_list.specs.declared.table.Table.{Table}
use Rattle.face_list.specs.Faces.{points_in, parts_in, points_with_cells, with_cells_around}
use Rattle.face_list.specs.Gather.{numbers_of, items_from, AreAscending, AreItems, is_a_full_cell, GathersItems}
use Rattle.face_list.specs.Tables.{cell_at, paired, table_seen, cells_numbered}
use Rattle.face_list.proofs.FaceLaws.{points_in_order, point_is_listed, listed_is_point, parts_in_order, part_is_listed}
use Rattle.face_list.proofs.FaceLaws.{listed_is_part}
use Rattle.face_list.proofs.Gathering.{numbers_rise, number_from, number_true, full_from, full_true}

-- ---- cells by their numbers

-- number m is that of a cell of which P holds, where the first has the number n
record Placed (P : Cell → Type 0) (n m : ℕ) (cells : List Cell) : Type 0 where
  place : ℕ
  inside : place < length cells
  is : n + place ≡ m
  holds : P (cell_at cells place)

-- one place further on
further : (P : Cell → Type 0) (n m : ℕ) (c : Cell) (cells : List Cell) → Placed P (suc n) m cells →
    Placed P n m (c ∷ cells)
further P n m c cells h = record {
  place = suc h.place;
  inside = (let i = h.inside in omega arith);
  is =
      (let i = h.is in omega (arith, i));
  holds = h.holds;
}

-- the numbers of the cells that pass a test
abbrev which : (Cell → Bool) → ℕ → List Cell → List ℕ
which t n [] = []
which t n (c ∷ cells) = cond (t c) (n ∷ which t (suc n) cells) (which t (suc n) cells)

-- a cell that passes has its number among these
which_true : (t : Cell → Bool) (n : ℕ) (c : Cell) (cells : List Cell) → t c ≡ true →
    which t n (c ∷ cells) ≡ n ∷ which t (suc n) cells
which_true t n c cells e = rw e refl

-- one that does not has not
which_false : (t : Cell → Bool) (n : ℕ) (c : Cell) (cells : List Cell) → t c ≡ false →
    which t n (c ∷ cells) ≡ which t (suc n) cells
which_false t n c cells e = rw e refl

-- they are the numbers of those cells
which_from : (t : Cell → Bool) (n m : ℕ) (cells : List Cell) → IsIn m (which t n cells) →
    Placed (λ c. t c ≡ true) n m cells
which_from t n m [] i = absurd i
which_from t n m (c ∷ cells) i = by (which_from t (suc n) m cells) (t c) refl
  where
    by : (IsIn m (which t (suc n) cells) → Placed (λ c. t c ≡ true) (suc n) m cells) → (b : Bool) → t c ≡ b →
        Placed (λ c. t c ≡ true) n m (c ∷ cells)
    by rest true e = elim (subst (IsIn m) (which_true t n c cells e) i) [
      | inl q ↦ record { place = 0; inside = omega arith; is = omega (arith, q); holds = e }
      | inr j ↦ further (λ c. t c ≡ true) n m c cells (rest j)
    ]
    by rest false e = further (λ c. t c ≡ true) n m c cells (rest (subst (IsIn m) (which_false t n c cells e) i))

-- and all of them
placed_in : (t : Cell → Bool) (n m place : ℕ) (cells : List Cell) → place < length cells → n + place ≡ m →
    t (cell_at cells place) ≡ true → IsIn m (which t n cells)
placed_in t n m place [] h e f = absurd (omega arith)
placed_in t n m zero (c ∷ cells) h e f = subst (IsIn m) (sym (which_true t n c cells f)) (inl (omega (arith, e)))
placed_in t n m (suc place) (c ∷ cells) h e f =
    by (placed_in t (suc n) m place cells (omega arith) (omega (arith, e)) f) (t c) refl
  where
    by : IsIn m (which t (suc n) cells) → (b : Bool) → t c ≡ b → IsIn m (which t n (c ∷ cells))
    by rest true g = subst (IsIn m) (sym (which_true t n c cells g)) (inr rest)
    by rest false g = subst (IsIn m) (sym (which_false t n c cells g)) rest

-- they rise
which_rise : (t : Cell → Bool) (n : ℕ) (cells : List Cell) → IsStrictlySortedBy nat_cmp (which t n cells)
unfolding IsStrictlySortedBy
which_rise t n [] = tt
which_rise t n (c ∷ cells) = by (which_rise t (suc n) cells) (t c) refl
  where
    above : (m : ℕ) → Placed (λ c. t c ≡ true) (suc n) m cells → nat_cmp n m ≡ Less
    above m h = (let e = h.is in cmp_less n m (omega (arith, e)))

    by : IsStrictlySortedBy nat_cmp (which t (suc n) cells) → (b : Bool) → t c ≡ b →
        IsStrictlySortedBy nat_cmp (which t n (c ∷ cells))
    by rest true e = subst (IsStrictlySortedBy nat_cmp) (sym (which_true t n c cells e)) (
      all_by (λ m. nat_cmp n m ≡ Less) (which t (suc n) cells) (λ m i. above m (which_from t (suc n) m cells i)),
      rest,
    )
    by rest false e = subst (IsStrictlySortedBy nat_cmp) (sym (which_false t n c cells e)) rest

-- and name the cells that pass
which_are : (t : Cell → Bool) (all : List Cell) (n : ℕ) (cells : List Cell) →
    ((i : ℕ) → cell_at all (n + i) ≡ cell_at cells i) → cells_numbered all (which t n cells) ≡ filter t cells
which_are t all n [] f = refl
which_are t all n (c ∷ cells) f = by (which_are t all (suc n) cells (λ i. ap (cell_at all) (omega arith) ∙ f (suc i)))
    (t c) refl
  where
    first : cell_at all n ≡ c
    first = ap (cell_at all) (omega arith) ∙ f 0

    by : cells_numbered all (which t (suc n) cells) ≡ filter t cells → (b : Bool) → t c ≡ b →
        cells_numbered all (which t n (c ∷ cells)) ≡ filter t (c ∷ cells)
    by rest true e = ap (cells_numbered all) (which_true t n c cells e)
        ∙ ap (λ (v : Cell). v ∷ cells_numbered all (which t (suc n) cells)) first ∙ ap (λ (l : List Cell). c ∷ l) rest
        ∙ rw e refl
    by rest false e = ap (cells_numbered all) (which_false t n c cells e) ∙ rest ∙ rw e refl

-- ---- the items of cells

-- an item has the number of a cell with that part
item_from : {K : Type 0} (parts : Cell → List K) (n : ℕ) (k : K) (m : ℕ) (cells : List Cell) →
    IsIn (k, m) (items_from n parts cells) → Placed (λ c. IsIn k (parts c)) n m cells
item_from parts n k m [] i = absurd i
item_from {K} parts n k m (c ∷ cells) i = elim
    (from_append (k, m) (map (λ p. (p, n)) (parts c)) (items_from (suc n) parts cells) i) [
      | inl j ↦ (
          let r = mapped_from (λ (p : K). (p, n)) (k, m) (parts c) j in
          let a : r.0 ≡ k = ap (λ (v : K × ℕ). v.0) r.2 in
          let b : n ≡ m = ap (λ (v : K × ℕ). v.1) r.2 in
          record {
            place = 0;
            inside = omega arith;
            is = omega (arith, b);
            holds = subst (λ v. IsIn v (parts c)) a r.1;
          })
      | inr j ↦ further (λ c. IsIn k (parts c)) n m c cells (item_from parts (suc n) k m cells j)
    ]

-- and each part of a cell is an item with its number
pub item_true : {K : Type 0} (parts : Cell → List K) (n : ℕ) (k : K) (m place : ℕ) (cells : List Cell) →
    place < length cells → n + place ≡ m → IsIn k (parts (cell_at cells place)) → IsIn (k, m) (items_from n parts cells)
item_true parts n k m place [] h e f = absurd (omega arith)
item_true {K} parts n k m zero (c ∷ cells) h e f =
    let b : n ≡ m = omega (arith, e) in
    in_left (k, m) (map (λ p. (p, n)) (parts c)) (items_from (suc n) parts cells)
    (subst (λ (v : ℕ). IsIn {X = K × ℕ} (k, v) (map (λ p. (p, n)) (parts c))) b
    (mapped_true (λ (p : K). (p, n)) k (parts c) f))
item_true parts n k m (suc place) (c ∷ cells) h e f =
    in_right (k, m) (map (λ p. (p, n)) (parts c)) (items_from (suc n) parts cells)
    (item_true parts (suc n) k m place cells (omega arith) (omega (arith, e)) f)

-- each names a cell
pub items_name : {K : Type 0} (parts : Cell → List K) (cells : List Cell) →
    AreItems (length cells) (items_from 0 parts cells)
items_name parts cells i m = (let h = item_from parts 0 i.0 i.1 cells m in let a = h.inside in let b = h.is in
    omega (arith, b))

-- a cell more
pub items_more : {K : Type 0} (parts : Cell → List K) (n : ℕ) (cells : List Cell) (c : Cell) →
    items_from n parts (cells ++ c ∷ []) ≡ items_from n parts cells ++ map (λ p. (p, n + length cells)) (parts c)
items_more {K} parts n [] c = without_end (map (λ p. (p, n)) (parts c))
    ∙ ap (λ (v : ℕ). map (λ (p : K). (p, v)) (parts c)) (omega arith)
  where
    without_end : (l : List (K × ℕ)) → l ++ [] ≡ l
    without_end [] = refl
    without_end (x ∷ l) = ap (λ (m : List (K × ℕ)). x ∷ m) (without_end l)
items_more {K} parts n (d ∷ cells) c =
    ap (λ (l : List (K × ℕ)). map (λ p. (p, n)) (parts d) ++ l) (items_more parts (suc n) cells c
    ∙ ap (λ (v : ℕ). items_from (suc n) parts cells ++ map (λ (p : K). (p, v)) (parts c)) (omega arith))
    ∙ sym (joined (map (λ p. (p, n)) (parts d)) (items_from (suc n) parts cells)
    (map (λ (p : K). (p, n + length (d ∷ cells))) (parts c)))
  where
    joined : (l m r : List (K × ℕ)) → (l ++ m) ++ r ≡ l ++ (m ++ r)
    joined [] m r = refl
    joined (x ∷ l) m r = ap (λ (v : List (K × ℕ)). x ∷ v) (joined l m r)

-- the loop's step: the cell of the next number under its parts
pub items_next :
    {K : Type 0} (parts : Cell → List K) (cells : List Cell) (n : ℕ) (c d : Cell) (old new : List (K × ℕ)) (ps : List K)
    → n < length cells → old ≡ items_from 0 parts (take n cells) →
    get_or cells n d ≡ c → ps ≡ parts c → new ≡ old ++ map (λ p. (p, n)) ps →
    new ≡ items_from 0 parts (take (n + 1) cells)
items_next {K} parts cells n c d old new ps h e f p m =
    let t : take (n + 1) cells ≡ take n cells ++ c ∷ [] =
    take_more cells n d h ∙ ap (λ (v : Cell). take n cells ++ v ∷ []) f in
    let k : 0 + length (take n cells) ≡ n = taken cells n h in
    m ∙ ap (λ (l : List (K × ℕ)). l ++ map (λ p. (p, n)) ps) e
    ∙ ap (λ (l : List K). items_from 0 parts (take n cells) ++ map (λ p. (p, n)) l) p
    ∙ ap (λ (v : ℕ). items_from 0 parts (take n cells) ++ map (λ p. (p, v)) (parts c)) (sym k)
    ∙ sym (items_more parts 0 (take n cells) c) ∙ ap (items_from 0 parts) (sym t)
  where
    taken : (l : List Cell) (n : ℕ) → n < length l → 0 + length (take n l) ≡ n
    taken l zero h = refl
    taken [] (suc n) h = absurd (omega arith)
    taken (x ∷ l) (suc n) h = (let r = taken l n (omega arith) in omega (arith, r))

-- the points of one cell more
pub ascending_more : (cells : List Cell) (c : Cell) → AreAscending cells → IsAscending (points_of c) →
    AreAscending (cells ++ c ∷ [])
ascending_more [] c a b = (b, tt)
ascending_more (d ∷ cells) c a b = (a.0, ascending_more cells c a.1 b)

-- the points of a cell ascend
cell_ascends : (cells : List Cell) (i : ℕ) → AreAscending cells → i < length cells →
    IsAscending (points_of (cell_at cells i))
cell_ascends [] i a h = absurd (omega arith)
cell_ascends (c ∷ cells) zero a h = a.0
cell_ascends (c ∷ cells) (suc i) a h = cell_ascends cells i a.1 (omega arith)

-- ---- what is gathered

-- Where the keys that parts give are the faces, and a test tells of the keys which cells have them, the table shows
-- each face with its cells.
module _ {K : Type 0} (cmp : K → K → Ordering) (o : IsTotalOrder cmp) (exact : CmpEqualImpliesEq cmp) (parts : Cell →
    List K) (test : K → Cell → Bool) (cells : List Cell) where
  -- the test is told of a key's cells
  abbrev pub Told : K → Type 0
  Told k = ((i : ℕ) → i < length cells → IsIn k (parts (cell_at cells i)) → test k (cell_at cells i) ≡ true)
      × ((i : ℕ) → i < length cells → test k (cell_at cells i) ≡ true → IsIn k (parts (cell_at cells i)))

  -- the numbers that are gathered under a key are those of the cells that pass its test
  numbers_are : (t : Table K) (g : GathersItems cmp cells (items_from 0 parts cells) t) (k : K) → Told k →
      numbers_of cmp g.sorted k ≡ which (test k) 0 cells
  numbers_are t g k told = one_order nat_cmp nat_cmp_total (numbers_of cmp g.sorted k) (which (test k) 0 cells)
      (numbers_rise cmp o exact g.sorted k g.order) (which_rise (test k) 0 cells) there back
    where
      there : (n : ℕ) → IsIn n (numbers_of cmp g.sorted k) → IsIn n (which (test k) 0 cells)
      there n i = (
          let h = item_from parts 0 k n cells ((g.same (k, n)).0 (number_from cmp exact g.sorted k n i)) in
          placed_in (test k) 0 n h.place cells h.inside h.is (told.0 h.place h.inside h.holds))

      back : (n : ℕ) → IsIn n (which (test k) 0 cells) → IsIn n (numbers_of cmp g.sorted k)
      back n i = (
          let h = which_from (test k) 0 n cells i in
          number_true cmp o g.sorted k n ((g.same (k, n)).1
          (item_true parts 0 k n h.place cells h.inside h.is (told.1 h.place h.inside h.holds))))

  -- so they name these cells
  cells_are : (t : Table K) (g : GathersItems cmp cells (items_from 0 parts cells) t) (k : K) → Told k →
      cells_numbered cells (numbers_of cmp g.sorted k) ≡ filter (test k) cells
  cells_are t g k told = ap (cells_numbered cells) (numbers_are t g k told)
      ∙ which_are (test k) cells 0 cells (λ i. ap (cell_at cells) (omega arith))

  -- each key has the list of its cells
  lists_are : (t : Table K) (g : GathersItems cmp cells (items_from 0 parts cells) t) (ks : List K) →
      ((k : K) → IsIn k ks → Told k) → paired ks (map (cells_numbered cells) (map (numbers_of cmp g.sorted) ks)) ≡ map
      (λ k. (k, filter (test k) cells)) ks
  lists_are t g [] f = refl
  lists_are t g (k ∷ ks) f =
      ap (λ (l : List Cell). (k, l) ∷ paired ks (map (cells_numbered cells) (map (numbers_of cmp g.sorted) ks)))
      (cells_are t g k (f k (inl refl)))
      ∙ ap (λ (l : List (K × List Cell)). (k, filter (test k) cells) ∷ l) (lists_are t g ks (λ j i. f j (inr i)))

  -- so the table shows each face with its cells
  pub seen_is :
      (t : Table K) (faces : List K) → GathersItems cmp cells (items_from 0 parts cells) t →
      IsStrictlySortedBy cmp faces →
      ((k : K) → IsIn k faces → Told k) →
      ((k : K) → (q : List ℕ) → IsIn (Full q) cells → IsIn k (parts (Full q)) → IsIn k faces) →
      ((k : K) → IsIn k faces → (q : List ℕ) × IsIn (Full q) cells × IsIn k (parts (Full q))) →
      table_seen cells t ≡ map (λ k. (k, filter (test k) cells)) faces
  seen_is t faces g s told there back =
      ap (λ (l : List (List ℕ)). paired t.keys.items (map (cells_numbered cells) l)) g.lists
      ∙ ap (λ (l : List K). paired l (map (cells_numbered cells) (map (numbers_of cmp g.sorted) l))) keys_are
      ∙ lists_are t g faces told
    where
      -- a Full cell by its number
      full_cell : (k : K) (i : ℕ) → i < length cells → (c : Cell) → cell_at cells i ≡ c → is_a_full_cell c ≡ true →
          IsIn k (parts c) → IsIn k faces
      full_cell k i h (Full q) e f p = there k q (subst (λ v. IsIn v cells) e (at_in cells i (Full []) h)) p
      full_cell k i h (Open q) e f p = cc

      key_is_face : (k : K) → IsIn k t.keys.items → IsIn k faces
      key_is_face k i = (
          let f = full_from cells g.sorted k ((g.keys k).0 i) in
          let h = item_from parts 0 k f.0 cells ((g.same (k, f.0)).0 f.1) in
          let e : h.place ≡ f.0 = (let d = h.is in omega (arith, d)) in
          full_cell k h.place h.inside (cell_at cells h.place) refl
          (subst (λ n. is_a_full_cell (cell_at cells n) ≡ true) (sym e) f.2) h.holds)

      -- where it stands
      stands : (q : List ℕ) (i : ℕ) → i < length cells → get_or cells i (Full q) ≡ Full q → cell_at cells i ≡ Full q
      stands q i h e = at_default cells i h ∙ e
        where
          at_default : (l : List Cell) (i : ℕ) → i < length l → get_or l i (Full []) ≡ get_or l i (Full q)
          at_default [] i h = absurd (omega arith)
          at_default (c ∷ l) zero h = refl
          at_default (c ∷ l) (suc i) h = at_default l i (omega arith)

      face_is_key : (k : K) → IsIn k faces → IsIn k t.keys.items
      face_is_key k i = (
          let b = back k i in
          let p = contains_in cells (Full b.0) b.1 in
          let e = stands b.0 p.0 p.1 p.2 in
          (g.keys k).1 (full_true cells g.sorted k p.0
          ((g.same (k, p.0)).1 (item_true parts 0 k p.0 p.0 cells p.1 (omega arith)
          (subst (λ c. IsIn k (parts c)) (sym e) b.2))) (subst (λ c. is_a_full_cell c ≡ true) (sym e) refl)))

      keys_are : t.keys.items ≡ faces
      keys_are = one_order cmp o t.keys.items faces g.keys_order s key_is_face face_is_key

-- ---- the two laws

-- what is gathered under points
pub points_gathered : (cells : List Cell) (t : Table ℕ) → AreAscending cells →
    GathersItems nat_cmp cells (items_from 0 points_of cells) t →
    table_seen cells t ≡ points_with_cells (points_in cells) cells
points_gathered cells t a g =
    seen_is nat_cmp nat_cmp_total exact_unsigned points_of (λ p c. list_all (λ e. is_among e (points_of c)) (p ∷ []))
    cells t (points_in cells) g (points_in_order cells)
    (λ p i. (
      λ n h m. all_true (λ e. is_among e (points_of (cell_at cells n))) (p ∷ [])
          (λ e j. elim j [
            | inl q ↦ subst (λ v. is_among v (points_of (cell_at cells n)) ≡ true) q
                (among_true p (points_of (cell_at cells n)) m)
            | inr none ↦ absurd none
          ]),
      λ n h m. among_from p (points_of (cell_at cells n))
          (all_from (λ e. is_among e (points_of (cell_at cells n))) (p ∷ []) m p (inl refl)),
    ))
    (λ p q l m. point_is_listed cells p (record { q = q; listed = l; has = m }))
    (λ p i. let h = listed_is_point cells p i in (h.q, h.listed, h.has))

-- a Full cell of the list ascends
full_ascends : (cells : List Cell) (q : List ℕ) → AreAscending cells → IsIn (Full q) cells → IsAscending q
full_ascends [] q a i = absurd i
full_ascends (c ∷ cells) q a i = elim i [
  | inl e ↦ subst (λ v. IsAscending (points_of v)) e a.0
  | inr j ↦ full_ascends
      cells q a.1 j
]

-- a part has as many points
pub part_length : (k : ℕ) (q p : List ℕ) → IsIn p (subsets k q) → length p ≡ k
part_length zero q p m = elim m [ inl e ↦ ap length (sym e) | inr none ↦ absurd none ]
part_length (suc k) [] p m = absurd m
part_length (suc k) (x ∷ q) p m = elim (from_append p (map (λ r. x ∷ r) (subsets k q)) (subsets (suc k) q) m) [
  | inl l ↦ (let r = mapped_from (λ r. x ∷ r) p (subsets k q) l in
      ap length (sym r.2) ∙ ap suc (part_length k q r.0 r.1))
  | inr l ↦ part_length (suc k) q p l
]

-- what is gathered under parts of k points
pub parts_gathered : (k : ℕ) (cells : List Cell) (t : Table (List ℕ)) → AreAscending cells →
    GathersItems (slice_cmp nat_cmp) cells (items_from 0 (λ c. subsets k (points_of c)) cells) t →
    table_seen cells t ≡ with_cells_around (parts_in k cells) cells
parts_gathered k cells t a g =
    seen_is (slice_cmp nat_cmp) nat_list_cmp_total exact_bytes (λ c. subsets k (points_of c))
    (λ p c. list_all (λ e. is_among e (points_of c)) p) cells t (parts_in k cells) g (parts_in_order k cells)
    (λ p i. (
      λ n h m. all_true (λ e. is_among e (points_of (cell_at cells n))) p
          (λ e j. among_true e (points_of (cell_at cells n)) (part_inside k (points_of (cell_at cells n)) p m e j)),
      λ n h m. (
          let l = listed_is_part k cells p i in
          let b = part_ascending k l.q p (full_ascends cells l.q a l.listed) l.part in
          subst (λ j. IsIn p (subsets j (points_of (cell_at cells n)))) (part_length k l.q p l.part)
          (part_true (points_of (cell_at cells n)) p (cell_ascends cells n a h) b
          (λ e j. among_from e (points_of (cell_at cells n))
          (all_from (λ e. is_among e (points_of (cell_at cells n))) p m e j)))),
    ))
    (λ p q l m. part_is_listed k cells p (record { q = q; listed = l; part = m }))
    (λ p i. let h = listed_is_part k cells p i in (h.q, h.listed, h.part))

-- ---- parts under a number, one by one

-- one part more
pub put_more : {K : Type 0} (number : ℕ) (old now new : List (K × ℕ)) (parts : List K) (i : ℕ) (part : K) →
    i < length parts → part ≡ get_or parts i part →
    now ≡ old ++ map (λ p. (p, number)) (take i parts) → new ≡ now ++ (part, number) ∷ [] →
    new ≡ old ++ map (λ p. (p, number)) (take (i + 1) parts)
put_more {K} number old now new parts i part l is e f =
    let under : K → K × ℕ = λ p. (p, number) in
    let t : take (i + 1) parts ≡ take i parts ++ part ∷ [] =
    take_more parts i part l ∙ ap (λ (v : K). take i parts ++ v ∷ []) (sym is) in
    f ∙ ap (λ (v : List (K × ℕ)). v ++ (part, number) ∷ []) e
    ∙ append_assoc old (map under (take i parts)) ((part, number) ∷ [])
    ∙ ap (λ (v : List (K × ℕ)). old ++ v) (sym (ap (λ (v : List K). map under v) t
    ∙ map-append under (take i parts) (part ∷ [])))
