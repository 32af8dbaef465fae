-- What buckets get of a history at once.
use Rattle.std.specs.Prelude.{◌≡◌, ℕ, zero, suc, ◌+◌, ◌*◌, ◌<◌, ◌≤◌, ◌==◌, ◌||◌, Bool, true, false, List, [], ◌∷◌, ◌++◌}
use Rattle.std.specs.Prelude.{Option, None, Some, IsSome, length, map, replicate, slice_get, slice_index_or, slice_set}
use Rattle.std.specs.List.{filter, list_any}
use Rattle.std.specs.List.Sorted.{IsStrictlySortedBy}
use Rattle.std.proofs.Common.{Vec, Global, refl, sym, ◌∙◌, ap, subst, inl, inr, arith, take}
use Rattle.std.proofs.lemmas.List.{append-nil, get_or-set_same, get_or-set_other, length-append, length-map, map-append}
use Rattle.std.proofs.lemmas.List.{take_all}
use Rattle.std.proofs.lemmas.List.Folds.{list_any_more}
use Rattle.std.proofs.lemmas.List.Kept.{IsStrictlySortedBy-filter}
use Rattle.list_laws.proofs.Cited.{len_set, map_set, filtered_ascending, filtered_from, in_pushed, is_there, same_from}
use Rattle.list_laws.proofs.Cited.{same_true, take_next}
use Rattle.point_order.specs.declared.cell.Cell.{Cell}
use Rattle.point_order.specs.CellOrder.{cell_cmp}
use Rattle.point_order.specs.Complex.{complex}
use Rattle.point_order.specs.Facets.{points_of}
use Rattle.point_order.specs.Sets.{IsIn, IsAscending}
use Rattle.edit_history.specs.declared.history.Entry.{Entry}
use Rattle.point_order.specs.Solid.{is_solid}
use Rattle.edit_history.specs.Histories.{IsLegal, replay}
use Rattle.edit_history.proofs.Cited.{leaves_set}
use Rattle.del_laws.specs.Keys.{AreKeys}
use Rattle.del_laws.proofs.Cited.{complex_is_sorted}
use Rattle.cell_store.specs.Buckets.{BucketContent, InHand, at_place, bucket_at, empty_hold}
use Rattle.bucket_grid.specs.Grids.{bucket_of}
use Rattle.cell_store.specs.Meshes.{AllInHand, with_bucket}
use Rattle.cell_store.specs.Shares.{IsShare, IsSound, Stands, cells_share, entries_share, points_share}
use Rattle.cell_store.specs.Swaps.{touches}
use Rattle.cell_store.specs.Wholes.{AreAt, AreCellsParted, AreParted, ArePartsFrom, HasFirst, IsPushedAt, IsPushedWhere}
use Rattle.cell_store.specs.Wholes.{is_noted_at, lies_at, list_at}
use Rattle.cell_store.specs.declared.whole.Parts.{Parts}
use Rattle.cell_store.proofs.HandLaws.{empty_stands, put_stands}
use Rattle.cell_stars.proofs.Cited.{filter_next, same_or_not}
use Rattle.list_laws.proofs.Cited.{right_true as or_true}

-- the test tells two that are not one
differ_false : (x y : ℕ) → (x ≡ y → ⊥) → (x == y) ≡ false
differ_false x y f = by (x == y) refl
  where
    by : (b : Bool) → (x == y) ≡ b → b ≡ false
    by true e = absurd (f (same_from x y e))
    by false e = refl

-- what stands at a place stands there whatever it is looked up with
pub own_default : (l : List ℕ) (k d : ℕ) → k < length l →
    slice_index_or l k d ≡ slice_index_or l k (slice_index_or l k d)
own_default [] k d h = absurd (omega arith)
own_default (x ∷ l) zero d h = refl
own_default (x ∷ l) (suc k) d h = own_default l k d (omega arith)

-- so it is with what was read there
pub as_at : {X : Type 0} (l : List X) (b : ℕ) (x y : X) → y ≡ x → x ≡ slice_index_or l b x → y ≡ slice_index_or l b y
as_at l b x y e f = subst (λ z. z ≡ slice_index_or l b z) (sym e) f

-- the lists that some vectors have
abbrev pub lists_in : {X : Type 0} → List (Vec X Global) → List (List X)
lists_in vs = map (λ v. v.items) vs

-- ---- lists of lists

-- the list with a number, of lists that are vectors
at_vec : {X : Type 0} (vs : List (Vec X Global)) (b : ℕ) (v : Vec X Global) → b < length vs →
    v ≡ slice_index_or vs b v → list_at (lists_in vs) b ≡ v.items
at_vec [] b v h e = absurd (omega arith)
at_vec {X} (w ∷ vs) zero v h e = ap (λ (u : Vec X Global). u.items) (sym e)
at_vec (w ∷ vs) (suc b) v h e = at_vec vs b v (omega arith) e

-- where a vector is set its list stands
set_vec : {X : Type 0} (vs : List (Vec X Global)) (b : ℕ) (v : Vec X Global) → b < length vs →
    list_at (lists_in (slice_set vs b v)) b ≡ v.items
set_vec {X} vs b v h =
    ap (λ l. list_at l b) (map_set (λ (u : Vec X Global). u.items) vs b v)
    ∙ get_or-set_same (lists_in vs) b v.items [] (let k = length-map vs (λ (u : Vec X Global). u.items) in
    omega (arith, h, k))

-- all others stand as before
other_vec : {X : Type 0} (vs : List (Vec X Global)) (b k : ℕ) (v : Vec X Global) → (k ≡ b → ⊥) →
    list_at (lists_in (slice_set vs b v)) k ≡ list_at (lists_in vs) k
other_vec {X} vs b k v f =
    ap (λ l. list_at l k) (map_set (λ (u : Vec X Global). u.items) vs b v)
    ∙ get_or-set_other (lists_in vs) b k v.items [] f

-- there are as many lists as before
count_vec : {X : Type 0} (vs : List (Vec X Global)) (b : ℕ) (v : Vec X Global) →
    length (lists_in (slice_set vs b v)) ≡ length (lists_in vs)
count_vec {X} vs b v = length-map (slice_set vs b v) (λ (u : Vec X Global). u.items) ∙ len_set vs b v
    ∙ sym (length-map vs (λ (u : Vec X Global). u.items))

-- and as many as vectors
pub length_vec : {X : Type 0} (vs : List (Vec X Global)) → length (lists_in vs) ≡ length vs
length_vec {X} vs = length-map vs (λ (u : Vec X Global). u.items)

-- all of them are empty
pub all_empty : {X : Type 0} (vs : List (Vec X Global)) → ((v : Vec X Global) → IsIn v vs → v.items ≡ []) → (b : ℕ) →
    list_at (lists_in vs) b ≡ []
all_empty [] f b = refl
all_empty (v ∷ vs) f zero = f v (inl refl)
all_empty (v ∷ vs) f (suc b) = all_empty vs (λ w m. f w (inr m)) b

-- one more of them is
pub empty_more : {X : Type 0} (n : ℕ) (vs new : List (Vec X Global)) (v : Vec X Global) → new ≡ vs ++ v ∷ [] →
    v.items ≡ [] →
    (length vs ≡ n) × ((w : Vec X Global) → IsIn w vs → w.items ≡ []) →
    (length new ≡ n + 1) × ((w : Vec X Global) → IsIn w new → w.items ≡ [])
empty_more {X} n vs new v e f s = (
  ap length e ∙ length-append vs (v ∷ []) ∙ ap (λ k. k + 1) s.0,
  λ w m. elim (in_pushed vs new v w e m) [ inl k ↦ s.1 w k | inr q ↦ subst (λ (u : Vec X Global). u.items ≡ []) q f ],
)

-- one of them has an element more
pub pushed_at : {X : Type 0} (vs : List (Vec X Global)) (b : ℕ) (v w : Vec X Global) (x : X) → b < length vs →
    v ≡ slice_index_or vs b v →
    w.items ≡ v.items ++ x ∷ [] → IsPushedAt b x (lists_in vs) (lists_in (slice_set vs b w))
pushed_at vs b v w x h e p = record {
  count = count_vec vs b w;
  there = set_vec vs b w h ∙ p ∙ ap (λ l. l ++ x ∷ []) (sym (at_vec vs b v h e));
  others = λ k f. other_vec vs b k w f;
}

-- ---- lists by buckets

-- no element yet: all lists are empty
pub parted_none : {X : Type 0} (g : ℕ) (test : ℕ → X → Bool) (xs : List X) (lists : List (List X)) →
    length lists ≡ g * g * g →
    ((b : ℕ) → list_at lists b ≡ []) → AreParted g test (take 0 xs) lists
parted_none g test xs lists c f = record { count = c; each = λ b h. f b ∙ none xs b }
  where
    none : (xs : List _) (b : ℕ) → [] ≡ filter (test b) (take 0 xs)
    none [] b = refl
    none (x ∷ xs) b = refl

-- an element more stands last in the list of its bucket
pub parted_more : {X : Type 0} (g : ℕ) (test : ℕ → X → Bool) (home : X → ℕ) (xs : List X) (n b : ℕ) (x : X)
    (old new : List (List X)) →
    ((k : ℕ) → test k x ≡ (home x == k)) → n < length xs → x ≡ slice_index_or xs n x → b ≡ home x →
    AreParted g test (take n xs) old → IsPushedAt b x old new →
    AreParted g test (take (n + 1) xs) new
parted_more g test home xs n b x old new t h e i s p = record {
  count = p.count ∙ s.count;
  each = λ k m. elim (same_or_not k b) [
    | inl q ↦ (
        let yes : test k x ≡ true = t k ∙ same_true (home x) k (sym i ∙ sym q) in
        ap (list_at new) q ∙ p.there ∙ ap (λ l. l ++ x ∷ []) (ap (list_at old) (sym q) ∙ s.each k m)
        ∙ sym (filter_next (test k) xs n x true h e yes))
    | inr f ↦ (
        let no : test k x ≡ false = t k ∙ differ_false (home x) k (λ q. f (sym q ∙ sym i)) in
        p.others k f ∙ s.each k m ∙ sym (filter_next (test k) xs n x false h e no
        ∙ append-nil (filter (test k) (take n xs))))
  ];
}

-- at the end each list has what passes in its bucket
pub parted_all : {X : Type 0} (g : ℕ) (test : ℕ → X → Bool) (xs : List X) (n : ℕ) (lists : List (List X)) →
    length xs ≤ n →
    AreParted g test (take n xs) lists → AreParted g test xs lists
parted_all g test xs n lists h s = subst (λ l. AreParted g test l lists) (take_all n xs h) s

-- ---- the places of a cell

-- a point of the first k lies in the bucket
abbrev pub first_touch : ℕ → List ℕ → ℕ → ℕ → Bool
first_touch g ps k b = list_any (lies_at g b) (take k ps)

-- a point of the first k + 1 lies in it where one of the first k does, or the next
touch_next : (g : ℕ) (ps : List ℕ) (k x b : ℕ) → k < length ps → x ≡ slice_index_or ps k x →
    first_touch g ps (k + 1) b ≡ (first_touch g ps k b || (bucket_of g x == b))
touch_next g ps k x b h e = list_any_more (lies_at g b) ps k x h
    ∙ ap (λ y. first_touch g ps k b || (bucket_of g y == b)) (sym e)

-- where it is false the first tells
or_false : (p q : Bool) → q ≡ false → (p || q) ≡ p
or_false true q e = refl
or_false false q e = e

-- before the first point the place stands in no list more
pub touch_none : (g : ℕ) (ps : List ℕ) (place : ℕ) (lists : List (List ℕ)) →
    IsPushedWhere (first_touch g ps 0) place lists lists
touch_none g ps place lists = record {
  count = refl;
  there = λ b h t. absurd (no ps b t);
  others = λ b t. refl;
}
  where
    no : (ps : List ℕ) (b : ℕ) → first_touch g ps 0 b ≡ true → ⊥
    no [] b t = cc t
    no (p ∷ ps) b t = cc t

-- the next point lies in a bucket that has the place already
pub touch_again : (g : ℕ) (ps : List ℕ) (k x place : ℕ) (old new : List (List ℕ)) → k < length ps →
    x ≡ slice_index_or ps k x →
    first_touch g ps k (bucket_of g x) ≡ true → IsPushedWhere (first_touch g ps k) place old new →
    IsPushedWhere (first_touch g ps (k + 1)) place old new
touch_again g ps k x place old new h e t s = record {
  count = s.count;
  there = λ b m u. s.there b m (sym (same b) ∙ u);
  others = λ b u. s.others b (sym (same b) ∙ u);
}
  where
    same : (b : ℕ) → first_touch g ps (k + 1) b ≡ first_touch g ps k b
    same b = elim (same_or_not (bucket_of g x) b) [
      | inl q ↦ (let here : first_touch g ps k b ≡ true = ap (first_touch g ps k) (sym q) ∙ t in
          touch_next g ps k x b h e ∙ or_true (first_touch g ps k b) (bucket_of g x ==
          b) (same_true (bucket_of g x) b q) ∙ sym here)
      | inr f ↦ touch_next g ps k x b h e ∙ or_false (first_touch g ps k b) (bucket_of g x ==
          b) (differ_false (bucket_of g x) b f)
    ]

-- or in another one
pub touch_new : (g : ℕ) (ps : List ℕ) (k x b0 place : ℕ) (old mid new : List (List ℕ)) → k < length ps →
    x ≡ slice_index_or ps k x → b0 ≡ bucket_of g x →
    first_touch g ps k b0 ≡ false → IsPushedWhere (first_touch g ps k) place old mid → IsPushedAt b0 place mid new →
    IsPushedWhere (first_touch g ps (k + 1)) place old new
touch_new g ps k x b0 place old mid new h e i t s p = record {
  count = p.count ∙ s.count;
  there = λ b m u. elim (same_or_not b b0) [
    | inl q ↦ ap (list_at new) q ∙ p.there ∙ ap (λ l. l ++ place ∷ []) (s.others b0 t ∙ ap (list_at old) (sym q))
    | inr f ↦ p.others b f ∙ s.there b m (sym (same b f) ∙ u)
  ];
  others = λ b u. elim (same_or_not b b0) [
    | inl q ↦ absurd (clash (first_touch g ps (k + 1) b) u
        (touch_next g ps k x b h e ∙ or_true (first_touch g ps k b) (bucket_of g x ==
        b) (same_true (bucket_of g x) b (sym i ∙ sym q))))
    | inr f ↦ p.others b f ∙ s.others b (sym (same b f) ∙ u)
  ];
}
  where
    same : (b : ℕ) → (b ≡ b0 → ⊥) → first_touch g ps (k + 1) b ≡ first_touch g ps k b
    same b f = touch_next g ps k x b h e ∙ or_false (first_touch g ps k b) (bucket_of g x ==
        b) (differ_false (bucket_of g x) b (λ q. f (sym q ∙ sym i)))

    clash : (b : Bool) → b ≡ false → b ≡ true → ⊥
    clash b u v = cc (u, v)

-- after all of them it stands in the lists of the buckets that the cell touches
pub touch_all : (g : ℕ) (c : Cell) (ps : List ℕ) (k place : ℕ) (old new : List (List ℕ)) → ps ≡ points_of c →
    length ps ≤ k →
    IsPushedWhere (first_touch g ps k) place old new → IsPushedWhere (λ b. touches g b c) place old new
touch_all g c ps k place old new e h s = record {
  count = s.count;
  there = λ b m t. s.there b m (same b ∙ t);
  others = λ b t. s.others b (same b ∙ t);
}
  where
    same : (b : ℕ) → first_touch g ps k b ≡ touches g b c
    same b = ap (list_any (lies_at g b)) (take_all k ps h ∙ e)

-- ---- the cells of each bucket

-- no cell yet: all lists are empty
pub cells_none : (g : ℕ) (cells : List Cell) (lists : List (List ℕ)) → length lists ≡ g * g * g →
    ((b : ℕ) → list_at lists b ≡ []) →
    AreCellsParted g cells (take 0 cells) lists
cells_none g cells lists c f = record { count = c; each = λ b h. ap (map (slice_get cells)) (f b) ∙ none cells b }
  where
    none : (l : List Cell) (b : ℕ) → [] ≡ map (λ c. Some c) (filter (touches g b) (take 0 l))
    none [] b = refl
    none (x ∷ l) b = refl

-- what is read at a place of the cells is what stands there
get_at : (cells : List Cell) (n : ℕ) (x d : Cell) → n < length cells → x ≡ slice_index_or cells n d →
    slice_get cells n ≡ Some x
get_at [] n x d h e = absurd (omega arith)
get_at (c ∷ cells) zero x d h e = ap (λ y. Some y) (sym e)
get_at (c ∷ cells) (suc n) x d h e = get_at cells n x d (omega arith) e

-- the place of a cell more stands last in the lists of the buckets that the cell touches
pub cells_more : (g : ℕ) (cells : List Cell) (n : ℕ) (x : Cell) (old new : List (List ℕ)) → n < length cells →
    x ≡ slice_index_or cells n x →
    AreCellsParted g cells (take n cells) old → IsPushedWhere (λ b. touches g b x) n old new →
    AreCellsParted g cells (take (n + 1) cells) new
cells_more g cells n x old new h e s p = record {
  count = p.count ∙ s.count;
  each = λ b m. by b m (touches g b x) refl;
}
  where
    some : List Cell → List (Option Cell)
    some l = map (λ c. Some c) l

    by : (b : ℕ) → b < g * g * g → (t : Bool) → touches g b x ≡ t →
        AreAt cells (list_at new b) (filter (touches g b) (take (n + 1) cells))
    by b m true t =
        ap (map (slice_get cells)) (p.there b (let k = s.count in omega (arith, m, k)) t)
        ∙ map-append (slice_get cells) (list_at old b) (n ∷ [])
        ∙ ap (λ o. map (slice_get cells) (list_at old b) ++ o ∷ []) (get_at cells n x x h e)
        ∙ ap (λ l. l ++ Some x ∷ []) (s.each b m)
        ∙ sym (ap (map (λ c. Some c)) (filter_next (touches g b) cells n x true h e t)
        ∙ map-append (λ c. Some c) (filter (touches g b) (take n cells)) (x ∷ []))
    by b m false t =
        ap (map (slice_get cells)) (p.others b t) ∙ s.each b m
        ∙ sym (ap (map (λ c. Some c)) (filter_next (touches g b) cells n x false h e t
        ∙ append-nil (filter (touches g b) (take n cells))))

-- at the end each list has the places of the cells that touch its bucket
pub cells_all : (g : ℕ) (cells : List Cell) (n : ℕ) (lists : List (List ℕ)) → length cells ≤ n →
    AreCellsParted g cells (take n cells) lists →
    AreCellsParted g cells cells lists
cells_all g cells n lists h s = subst (λ l. AreCellsParted g cells l lists) (take_all n cells h) s

-- the cells at places, one by one
pub at_none : (cells : List Cell) (places : List ℕ) (list : List Cell) → list ≡ [] → AreAt cells (take 0 places) list
at_none cells [] list e = sym (ap (map (λ c. Some c)) e)
at_none cells (n ∷ places) list e = sym (ap (map (λ c. Some c)) e)

-- the cell at the next place comes last
pub at_more : (cells : List Cell) (places : List ℕ) (k n : ℕ) (x d : Cell) (list new : List Cell) → k < length places →
    n ≡ slice_index_or places k n →
    n < length cells → x ≡ slice_index_or cells n d → new ≡ list ++ x ∷ [] → AreAt cells (take k places) list →
    AreAt cells (take (k + 1) places) new
at_more cells places k n x d list new h e i f p s =
    ap (map (slice_get cells)) (take_next places k n h e) ∙ map-append (slice_get cells) (take k places) (n ∷ [])
    ∙ ap (λ l. l ++ slice_get cells n ∷ []) s ∙ ap (λ o. map (λ c. Some c) list ++ o ∷ []) (get_at cells n x d i f)
    ∙ sym (ap (map (λ c. Some c)) p ∙ map-append (λ c. Some c) list (x ∷ []))

-- at the end there is a cell for each place
pub at_all : (cells : List Cell) (places : List ℕ) (k : ℕ) (list : List Cell) → length places ≤ k →
    AreAt cells (take k places) list → AreAt cells places list
at_all cells places k list h s = subst (λ l. AreAt cells l list) (take_all k places h) s

-- the places are some of the list
pub at_within : (cells : List Cell) (places : List ℕ) (list : List Cell) → AreAt cells places list → (i : ℕ) →
    IsIn i places → i < length cells
at_within cells (n ∷ places) (c ∷ list) s i (inl e) = (let h = within cells n c (cc s) in omega (arith, h, e))
  where
    within : (cells : List Cell) (n : ℕ) (c : Cell) → slice_get cells n ≡ Some c → n < length cells
    within [] n c e = absurd (cc e)
    within (d ∷ cells) zero c e = omega arith
    within (d ∷ cells) (suc n) c e = (let h = within cells n c e in omega (arith, h))
at_within cells (n ∷ places) (c ∷ list) s i (inr m) = at_within cells places list (cc s) i m
at_within cells (n ∷ places) [] s i m = absurd (cc s)
at_within cells [] list s i m = absurd m

-- and tell the cells
pub at_is : (cells : List Cell) (places : List ℕ) (list some : List Cell) → AreAt cells places list →
    AreAt cells places some → list ≡ some
at_is cells places list some s t = same list some (sym s ∙ t)
  where
    same : (l m : List Cell) → map (λ c. Some c) l ≡ map (λ c. Some c) m → l ≡ m
    same [] [] e = refl
    same [] (c ∷ m) e = absurd (cc e)
    same (c ∷ l) [] e = absurd (cc e)
    same (c ∷ l) (d ∷ m) e = (let h : c ≡ d = cc e in let k : map (λ c. Some c) l ≡ map (λ c. Some c) m = cc e in
        ap (λ x. x ∷ l) h ∙ ap (λ r. d ∷ r) (same l m k))

-- ---- what is there for the buckets

-- points, entries and cells by buckets are the parts of all buckets
pub parts_are : (g : ℕ) (h : List Entry) (points : List ℕ) (cells : List Cell) (parts : Parts) → points ≡ replay h →
    cells ≡ complex (replay h) →
    AreParted g (lies_at g) points (lists_in parts.points.items) →
    AreParted g (is_noted_at g) h (lists_in parts.entries.items) →
    AreCellsParted g cells cells (lists_in parts.cells.items) → ArePartsFrom g 0 h cells parts
parts_are g h points cells parts e f p q r = record {
  points_count = p.count;
  entries_count = q.count;
  cells_count = r.count;
  points_are = λ b n m. p.each b m ∙ ap (filter (lies_at g b)) e;
  entries_are = λ b n m. q.each b m;
  cells_are = λ b n m. r.each b m ∙ ap (λ (l : List Cell). map (λ c. Some c) (filter (touches g b) l)) f;
}

-- once the parts of a bucket are taken, those of the later ones are there
pub parts_next : (g b : ℕ) (h : List Entry) (cells : List Cell) (old : Parts) (p : Vec ℕ Global) (q : Vec Entry Global)
    (r : Vec ℕ Global) (new : Parts) →
    new.points.items ≡ slice_set old.points.items b p → new.entries.items ≡ slice_set old.entries.items b q →
    new.cells.items ≡ slice_set old.cells.items b r →
    ArePartsFrom g b h cells old → ArePartsFrom g (b + 1) h cells new
parts_next g b h cells old p q r new e f i s = record {
  points_count = ap (λ l. length (lists_in l)) e ∙ count_vec old.points.items b p ∙ s.points_count;
  entries_count = ap (λ l. length (lists_in l)) f ∙ count_vec old.entries.items b q ∙ s.entries_count;
  cells_count = ap (λ l. length (lists_in l)) i ∙ count_vec old.cells.items b r ∙ s.cells_count;
  points_are = λ k n m. ap (λ l. list_at (lists_in l) k) e
      ∙ other_vec old.points.items b k p (λ t. absurd (omega (arith, t, n))) ∙ s.points_are k (omega (arith, n)) m;
  entries_are = λ k n m. ap (λ l. list_at (lists_in l) k) f
      ∙ other_vec old.entries.items b k q (λ t. absurd (omega (arith, t, n))) ∙ s.entries_are k (omega (arith, n)) m;
  cells_are = λ k n m. ap (λ (l : List ℕ). map (slice_get cells) l) (ap (λ l. list_at (lists_in l) k) i
      ∙ other_vec old.cells.items b k r (λ t. absurd (omega (arith, t, n)))) ∙ s.cells_are k (omega (arith, n)) m;
}

-- what is taken for the bucket with the number is its part
pub part_points : (g b : ℕ) (h : List Entry) (cells : List Cell) (parts : Parts) (v : Vec ℕ Global) → b < g * g * g →
    v ≡ slice_index_or parts.points.items b v →
    ArePartsFrom g b h cells parts → v.items ≡ points_share g b h
part_points g b h cells parts v m e s =
    sym (at_vec parts.points.items b v (let k = s.points_count in let l = length_vec parts.points.items in
    omega (arith, m, k, l)) e) ∙ s.points_are b (omega arith) m

-- so are its entries
pub part_entries : (g b : ℕ) (h : List Entry) (cells : List Cell) (parts : Parts) (v : Vec Entry Global) →
    b < g * g * g → v ≡ slice_index_or parts.entries.items b v →
    ArePartsFrom g b h cells parts → v.items ≡ entries_share g b h
part_entries g b h cells parts v m e s =
    sym (at_vec parts.entries.items b v (let k = s.entries_count in let l = length_vec parts.entries.items in
    omega (arith, m, k, l)) e) ∙ s.entries_are b (omega arith) m

-- and the places of its cells
pub part_cells : (g b : ℕ) (h : List Entry) (cells : List Cell) (parts : Parts) (v : Vec ℕ Global) → b < g * g * g →
    v ≡ slice_index_or parts.cells.items b v →
    ArePartsFrom g b h cells parts → AreAt cells v.items (cells_share g b h)
part_cells g b h cells parts v m e s =
    ap (map (slice_get cells)) (sym (at_vec parts.cells.items b v (let k = s.cells_count in let l =
    length_vec parts.cells.items in omega (arith, m, k, l)) e)) ∙ s.cells_are b (omega arith) m

-- a legal history is sound, where what it leaves is a solid list of keys
pub sound_by : (h : List Entry) (points : List ℕ) → IsLegal h → points ≡ replay h → is_solid points ≡ true →
    AreKeys points → IsSound h
sound_by h points legal e solid keys = record {
  legal = legal;
  set = record {
    set = record { ascending = leaves_set h; keys = subst AreKeys e keys };
    solid = subst (λ (s : List ℕ). is_solid s ≡ true) e solid;
  };
}

-- the lists of a share are in order
pub share_ascends : (g b : ℕ) (h : List Entry) → IsSound h → IsAscending (points_share g b h)
share_ascends g b h s = filtered_ascending (lies_at g b) (replay h) s.set.set.ascending

-- so are its cells
pub share_sorted : (g b : ℕ) (h : List Entry) → IsSound h → IsStrictlySortedBy cell_cmp (cells_share g b h)
share_sorted g b h s = IsStrictlySortedBy-filter cell_cmp (touches g b) (complex (replay h))
    (complex_is_sorted (replay h) s.set.set.ascending)

-- each of these touches the bucket
pub share_touches : (g b : ℕ) (h : List Entry) (c : Cell) → IsIn c (cells_share g b h) → touches g b c ≡ true
share_touches g b h c m = (filtered_from (touches g b) (complex (replay h)) c m).1

-- ---- the buckets in hand

-- of empty places none has a bucket
none_at : (n k : ℕ) → bucket_at (replicate n None) k ≡ None
none_at zero k = refl
none_at (suc n) zero = refl
none_at (suc n) (suc k) = none_at n k

-- so many empty places are so many
none_length : (n : ℕ) → (let l : List (Option BucketContent) = replicate n None in length l ≡ n)
none_length zero = refl
none_length (suc n) = ap suc (none_length n)

-- at first no bucket is in hand
pub first_none : (g : ℕ) (h : List Entry) (hold : InHand) → hold ≡ empty_hold g → IsSound h → HasFirst g 0 h hold
first_none g h hold e s = record {
  grid = ap (λ (v : InHand). v.grid) e;
  count = ap (λ (v : InHand). length v.places) e ∙ none_length (g * g * g);
  stands = subst (λ v. Stands v h) (sym e) (empty_stands g h s);
  there = λ b m. absurd (omega (arith, m));
  absent = λ b m. ap (λ (v : InHand). bucket_at v.places b) e ∙ none_at (g * g * g) b;
}

-- with the share of the next bucket one more is
pub first_next : (g b : ℕ) (h : List Entry) (c : BucketContent) (old new : InHand) → b < g * g * g → IsShare g b h c →
    new ≡ with_bucket b c old → HasFirst g b h old → HasFirst g (b + 1) h new
first_next g b h c old new m s e f = record {
  grid = ap (λ (v : InHand). v.grid) e ∙ f.grid;
  count = ap (λ (v : InHand). length v.places) e ∙ len_set old.places b set ∙ f.count;
  stands = subst (λ v. Stands v h) (sym e) (put_stands old b c h f.stands
      (subst (λ v. IsShare v b h c) (sym f.grid) s));
  there = λ k i. elim (same_or_not k b) [
    | inl q ↦ subst (λ o. IsSome o) (sym (ap (λ (v : InHand). bucket_at v.places k) e
        ∙ ap (bucket_at (slice_set old.places b set)) q
        ∙ get_or-set_same old.places b set None (let n = f.count in omega (arith, n, m))))
        (is_there set (at_place old.grid b c) refl)
    | inr q ↦ subst (λ o. IsSome o) (sym (ap (λ (v : InHand). bucket_at v.places k) e
        ∙ get_or-set_other old.places b k set None q)) (f.there k (omega (arith, i, q)))
  ];
  absent = λ k i. ap (λ (v : InHand). bucket_at v.places k) e
      ∙ get_or-set_other old.places b k set None (λ q. absurd (omega (arith, q, i))) ∙ f.absent k (omega (arith, i));
}
  where
    set : Option BucketContent
    set = Some (at_place old.grid b c)

-- at the end all are
pub first_all : (g n : ℕ) (h : List Entry) (hold : InHand) → g * g * g ≤ n → HasFirst g n h hold → AllInHand hold
first_all g n h hold m f = λ b i. f.there b (let c = f.count in omega (arith, c, i, m))
