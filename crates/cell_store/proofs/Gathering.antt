-- Lists that are gathered bucket by bucket.
use Rattle.std.specs.Prelude.{◌≡◌, ℕ, ◌+◌, ◌<◌, ◌≤◌, Bool, true, false, List, [], ◌∷◌, ◌++◌, length, take, Option, Some}
use Rattle.std.specs.Prelude.{None, IsSome}
use Rattle.std.specs.List.{filter, flat_map}
use Rattle.std.specs.List.Sorted.{IsNonDecreasingBy, IsPermutation, IsStrictlySortedBy}
use Rattle.std.proofs.Common.{ap, sym, subst, refl, ◌∙◌, add-one, append_assoc, inl, inr, arith, Vec, Global}
use Rattle.std.proofs.lemmas.Grind.{flat_map-append}
use Rattle.std.proofs.lemmas.List.{append-nil, get_or-set_other, take_all}
use Rattle.std.proofs.lemmas.List.Sorted.{IsPermutation-refl, IsPermutation-sym}
use Rattle.list_laws.proofs.Cited.{filtered_from, filtered_true, from_append, in_left, in_moved, in_right, one_below}
use Rattle.list_laws.proofs.Cited.{same_true, some_of}
use Rattle.point_order.specs.declared.cell.Cell.{Cell}
use Rattle.point_order.specs.declared.cell.Cell.TheVariants.{Full, Open}
use Rattle.point_order.specs.Complex.{complex}
use Rattle.point_order.specs.Facets.{points_of}
use Rattle.point_order.specs.Sets.{IsIn}
use Rattle.point_order.specs.CellOrder.{AreSameCells, cell_cmp}
use Rattle.del_laws.specs.Listed.{IsListed}
use Rattle.del_laws.proofs.Cited.{listed_is_cell}
use Rattle.edit_history.specs.declared.history.Entry.{Entry}
use Rattle.edit_history.proofs.Cited.{merged_order}
use Rattle.bucket_grid.proofs.Cited.{bucket_below}
use Rattle.bucket_grid.specs.Grids.{bucket_of}
use Rattle.cell_store.specs.Swaps.{touches}
use Rattle.cell_store.specs.Buckets.{BucketContent, InHand, bucket_at}
use Rattle.cell_store.specs.Shares.{Shows, Stands}
use Rattle.cell_store.specs.Stars.{bucket_of_first}
use Rattle.cell_store.specs.Meshes.{AllInHand, IsWhole, all_cells, all_entries, without_bucket}
use Rattle.cell_store.specs.Gathered.{AreGatheredFrom, HasHome, home_of, is_home}
use Rattle.cell_store.proofs.MeshLaws.{cells_of, in_flat, mesh_gathers, mesh_gathers_cells, next_gathered, point_held}
use Rattle.cell_store.proofs.ShareLaws.{touched}

-- nothing is gathered at first
pub gathered_none : (hold : InHand) (list : List Cell) → list ≡ [] → AreGatheredFrom hold 0 list
gathered_none hold list e = record {
  each = λ c i. absurd (subst (λ (v : List Cell). IsIn c v) e i);
  all =
      λ c x h f i. absurd (omega (arith, h));
}

-- the cells of one more bucket are
pub gathered_next : (hold : InHand) (n : ℕ) (x : BucketContent) (old new : List Cell) → n < length hold.places →
    bucket_at hold.places n ≡ Some x → HasHome hold.grid n x.cells old new → AreGatheredFrom hold n old →
    AreGatheredFrom hold (n + 1) new
gathered_next hold n x old new h e (come, p, m) s = record {
  each = λ c i. elim (from_append c old m.0 (subst (λ (v : List Cell). IsIn c v) m.2 i)) [
    | inl j ↦ s.each c j
    | inr j ↦ in_flat cells_of hold.places n None c h
        (subst (λ o. IsIn c (cells_of o)) (sym e) (in_moved x.cells come c p
        (filtered_from (is_home hold.grid n) come c (in_moved (filter (is_home hold.grid n) come) m.0 c m.1 j)).0))
  ];
  all = λ c y l f i. subst (λ (v : List Cell). IsIn c v) (sym m.2) (elim (one_below n (home_of hold.grid c) l) [
    | inl k ↦ in_left c old m.0 (s.all c y k f i)
    | inr k ↦ in_right c old m.0 (in_moved m.0 (filter (is_home hold.grid n) come) c
        (IsPermutation-sym (filter (is_home hold.grid n) come) m.0 m.1)
        (filtered_true (is_home hold.grid n) come c
        (in_moved come x.cells c (IsPermutation-sym x.cells come p) (known c y k f i))
        (same_true (home_of hold.grid c) n k)))
  ]);
}
  where
    same_content : (y z : BucketContent) → ◌≡◌ {A = Option BucketContent} (Some y) (Some z) → y ≡ z
    same_content y z q = cc q

    known : (c : Cell) (y : BucketContent) → home_of hold.grid c ≡ n →
        bucket_at hold.places (home_of hold.grid c) ≡ Some y → IsIn c y.cells → IsIn c x.cells
    known c y k f i = subst (λ (z : BucketContent). IsIn c z.cells)
        (same_content y x (sym f ∙ ap (bucket_at hold.places) k ∙ e)) i

-- so many buckets or more are all
pub gathered_past : (hold : InHand) (n : ℕ) (list : List Cell) → length hold.places ≤ n → AreGatheredFrom hold n list →
    AreGatheredFrom hold (length hold.places) list
gathered_past hold n list h s = record { each = s.each; all = λ c x l f i. s.all c x (omega (arith, h, l)) f i }

-- the first point of a cell of a complex, which is its home
first_is : (s : List ℕ) (c : Cell) → IsListed s c →
    (p : ℕ) × IsIn p (points_of c) × ((g : ℕ) → home_of g c ≡ bucket_of g p)
first_is s (Full q) l = (l.a, subst (IsIn l.a) (sym l.is) (inl refl), λ g. ap (bucket_of_first g) l.is)
first_is s (Open t) l = (l.a, subst (IsIn l.a) (sym l.is) (inl refl), λ g. ap (bucket_of_first g) l.is)

-- those of all buckets are all cells of the set that the hold shows
pub gathered_all : (hold : InHand) (s : List ℕ) (list : List Cell) → IsWhole hold → Shows hold s →
    AreGatheredFrom hold (length hold.places) list → AreSameCells (all_cells hold.places) list
gathered_all hold s list w sh g = (back, g.each)
  where
    back : (c : Cell) → IsIn c (all_cells hold.places) → IsIn c list
    back c i =
        let k = (mesh_gathers_cells hold s w sh).cells.0 c i in
        let p = first_is s c (listed_is_cell s c sh.ascending k) in
        let h = home_of hold.grid c in
        let same : bucket_of hold.grid p.0 ≡ h = sym (p.2 hold.grid) in
        let x = some_of (bucket_at hold.places h)
        (subst (λ n. IsSome (bucket_at hold.places n)) same (point_held hold p.0 w.has w.all)) in
        let below : h < length hold.places = subst (λ (n : ℕ). n < length hold.places) same
        (subst (λ n. bucket_of hold.grid p.0 < n) (sym w.has.places) (bucket_below hold.grid p.0 w.has.size)) in
        g.all c x.0 below x.1 (subst (IsIn c) (sym ((sh.sights h x.0 x.1).cells))
        (filtered_true (touches hold.grid h) (complex s) c k (touched hold.grid p.0 h c (p.2 hold.grid) p.1)))

-- ---- the cells of one bucket, one after another

-- what passes of a cell and of the others is what passes of all
filter_next : (P : Cell → Bool) (x : Cell) (l : List Cell) → filter P (x ∷ []) ++ filter P l ≡ filter P (x ∷ l)
filter_next P x l = by (P x) refl
  where
    by : (t : Bool) → P x ≡ t → filter P (x ∷ []) ++ filter P l ≡ filter P (x ∷ l)
    by true e = rw e refl
    by false e = rw e refl

-- one is put behind the others, if it passes a test
pub come_step : (P : Cell → Bool) (x : Cell) (list new to rest all : List Cell) → to ≡ x ∷ rest →
    new ≡ list ++ filter P (x ∷ []) → list ++ filter P to ≡ all → new ++ filter P rest ≡ all
come_step P x list new to rest all e n i =
    ap (λ v. v ++ filter P rest) n ∙ append_assoc list (filter P (x ∷ [])) (filter P rest)
    ∙ ap (λ v. list ++ v) (filter_next P x rest ∙ ap (filter P) (sym e)) ∙ i

-- that is so
pub one_comes : (P : Cell → Bool) (x : Cell) (list new : List Cell) → P x ≡ true → new ≡ list ++ x ∷ [] →
    new ≡ list ++ filter P (x ∷ [])
one_comes P x list new t e = e ∙ ap (λ v. list ++ v) (sym (yes t))
  where
    yes : P x ≡ true → filter P (x ∷ []) ≡ x ∷ []
    yes f = rw f refl

-- or not
pub none_comes : (P : Cell → Bool) (x : Cell) (list : List Cell) → P x ≡ false → list ≡ list ++ filter P (x ∷ [])
none_comes P x list t = sym (append-nil list) ∙ ap (λ v. list ++ v) (sym (no t))
  where
    no : P x ≡ false → filter P (x ∷ []) ≡ []
    no f = rw f refl

-- at the end none is left, and those that passed are behind the others
pub come_all : (g b : ℕ) (cells come old list to : List Cell) → IsPermutation cells come → to ≡ [] →
    list ++ filter (is_home g b) to ≡ old ++ filter (is_home g b) come → HasHome g b cells old list
come_all g b cells come old list to p e i = (
  come,
  p,
  (
    filter (is_home g b) come,
    IsPermutation-refl (filter (is_home g b) come),
    sym (append-nil list) ∙ ap (λ v. list ++ filter (is_home g b) v) (sym e) ∙ i,
  ),
)

-- a list with the part of one more bucket
pub list_next : {Y : Type 0} (f : Option BucketContent → List Y) (l : List (Option BucketContent)) (n : ℕ)
    (x : BucketContent) (old more new : List Y) → n < length l → bucket_at l n ≡ Some x → old ≡ flat_map f (take n l) →
    more ≡ f (Some x) → new ≡ old ++ more → new ≡ flat_map f (take (n + 1) l)
list_next {Y} f l n x old more new h e o m k =
    k ∙ ap (λ (v : List Y). v ++ more) o ∙ ap (λ (v : List Y). flat_map f (take n l) ++ v) (m ∙ ap f (sym e)) ∙ sym next
  where
    next : flat_map f (take (n + 1) l) ≡ flat_map f (take n l) ++ f (bucket_at l n)
    next = rw add-one (next_gathered f l n h)

-- and with those of all
pub list_all : {Y : Type 0} (f : Option BucketContent → List Y) (l : List (Option BucketContent)) (n : ℕ)
    (list : List Y) → length l ≤ n → list ≡ flat_map f (take n l) → list ≡ flat_map f l
list_all f l n list h e = e ∙ ap (flat_map f) (take_all n l h)

-- the entries of all buckets, in the order of their numbers, are the history for which the hold stands
pub history_gathered : (hold : InHand) (h entries sorted : List Entry) → IsWhole hold → Stands hold h →
    entries ≡ all_entries hold.places → IsPermutation entries sorted →
    IsNonDecreasingBy (λ (e : Entry). e.number) sorted → sorted ≡ h
history_gathered hold h entries sorted w st e p o =
    let g = mesh_gathers hold h w st in
    let same : IsPermutation (all_entries hold.places) sorted = subst (λ (l : List Entry). IsPermutation l sorted) e p
    in
    g.ordered sorted same (merged_order (all_entries hold.places) sorted g.numbered same o)

-- ---- a list for each bucket, which is then let go

-- the buckets from the n-th on are in hand as they were
abbrev pub AreLeft : InHand → InHand → ℕ → Type 0
AreLeft old now n = (b : ℕ) → n ≤ b → bucket_at now.places b ≡ bucket_at old.places b

-- when the n-th is let go, the others after it are
pub left_next : (old now new : InHand) (n : ℕ) → new ≡ without_bucket n now → AreLeft old now n →
    AreLeft old new (n + 1)
left_next old now new n e l b h =
    ap (λ h. bucket_at h.places b) e
    ∙ get_or-set_other now.places n b None None (λ q. absurd (omega (arith, q, h))) ∙ l b (omega (arith, h))

-- the n-th is in hand
pub left_here : (old now : InHand) (n : ℕ) → AllInHand old → AreLeft old now n → n < length old.places →
    IsSome (bucket_at now.places n)
left_here old now n all l h = subst (λ o. IsSome o) (sym (l n (omega arith))) (all n h)

-- the cells of one more list are gathered, which are those of its bucket
pub gathered_list : (hold : InHand) (n : ℕ) (x : BucketContent) (old new : List (Vec Cell Global))
    (list : Vec Cell Global) → n < length hold.places → bucket_at hold.places n ≡ Some x →
    HasHome hold.grid n x.cells [] list.items →
    new ≡ old ++ list ∷ [] → AreGatheredFrom hold n (flat_map (λ list. list.items) old) →
    AreGatheredFrom hold (n + 1) (flat_map (λ list. list.items) new)
gathered_list hold n x old new list h e (come, p, m) q s =
    gathered_next hold n x (flat_map f old) (flat_map f new) h e (
      come,
      p,
      (
        m.0,
        m.1,
        ap (flat_map f) q ∙ flat_map-append f old (list ∷ [])
            ∙ ap (λ (v : List Cell). flat_map f old ++ v) (append-nil list.items ∙ m.2),
      ),
    ) s
  where
    f : Vec Cell Global → List Cell
    f list = list.items

-- the elements of one more list are put behind those of the others
pub list_joined : {X Y : Type 0} (f : X → List Y) (xs : List X) (x : X) (old more new : List Y) →
    old ≡ flat_map f xs → more ≡ f x → new ≡ old ++ more → new ≡ flat_map f (xs ++ x ∷ [])
list_joined {X} {Y} f xs x old more new o m k =
    k ∙ ap (λ (v : List Y). v ++ more) o
    ∙ ap (λ (v : List Y). flat_map f xs ++ v) (m ∙ sym (append-nil (f x))) ∙ sym (flat_map-append f xs (x ∷ []))

-- until none is left
pub none_left : {X : Type 0} (l : List X) → length l ≡ 0 → l ≡ []
none_left [] h = refl
none_left (x ∷ l) h = absurd (omega (arith, h))

-- ---- the complex

-- in order the gathered cells of all buckets are the complex of the set that the hold shows
pub complex_gathered : (hold : InHand) (s : List ℕ) (list sorted : List Cell) → IsWhole hold → Shows hold s →
    AreGatheredFrom hold (length hold.places) list → IsStrictlySortedBy cell_cmp sorted → AreSameCells list sorted →
    sorted ≡ complex s
complex_gathered hold s list sorted w sh g o same =
    let l = gathered_all hold s list w sh g in
    (mesh_gathers_cells hold s w sh).ordered sorted o
    ((λ x m. same.0 x (l.0 x m)), (λ x m. l.1 x (same.1 x m)))
