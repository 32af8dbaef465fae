-- Meshes, their histories, and buckets in hand.
use Rattle.std.specs.Prelude.{◌≡◌, ◌⊎◌, ltb, ℕ, ◌+◌, ◌-◌, ◌*◌, ◌^◌, zero, suc, ◌<◌, ◌≤◌, ◌==◌, min, nat_lt, Bool, true}
use Rattle.std.specs.Prelude.{false, cond, not, ◌&&◌, List, [], ◌∷◌, ◌++◌, Option, None, Some, IfSome, IsSome, length}
use Rattle.std.specs.Prelude.{slice_index_or}
use Rattle.std.specs.List.{filter, flat_map, range_with_len}
use Rattle.std.specs.List.Sorted.{IsPermutation, IsNonDecreasingBy}
use Rattle.std.specs.Option.{option_map, option_map_or}
use Rattle.std.proofs.Common.{refl, sym, ◌∙◌, ap, subst, inl, inr, arith, take, length-append, add-one}
use Rattle.std.proofs.Math.Seq.{take-length}
use Rattle.std.proofs.lemmas.Bool.Decides.{nat_tests}
use Rattle.std.proofs.lemmas.Grind.{flat_map-append}
use Rattle.std.proofs.lemmas.List.{append-nil}
use Rattle.std.proofs.lemmas.List.Sorted.{IsPermutation-append, IsPermutation-cons, IsPermutation-middle}
use Rattle.std.proofs.lemmas.List.Sorted.{IsPermutation-filter_both, IsPermutation-map, IsPermutation-refl}
use Rattle.std.proofs.lemmas.List.Sorted.{IsPermutation-sym, IsPermutation-trans, length_permutation}
use Rattle.list_laws.proofs.Cited.{all_pass, below_true, filter_and, filtered_from, filtered_true, from_append, if_some}
use Rattle.list_laws.proofs.Cited.{in_left, in_moved, in_right, is_there, none_pass, some_mapped, some_of, take_suc}
use Rattle.point_order.specs.declared.cell.Cell.{Cell}
use Rattle.point_order.specs.declared.cell.Cell.TheVariants.{Full, Open}
use Rattle.point_order.specs.Complex.{complex}
use Rattle.point_order.specs.Facets.{points_of}
use Rattle.point_order.specs.Sets.{IsIn, is_among}
use Rattle.point_order.specs.CellOrder.{AreSameCells}
use Rattle.edit_history.specs.Edits.{HasKeys}
use Rattle.edit_history.specs.declared.history.Entry.{Entry}
use Rattle.edit_history.specs.Edits.{point_of, reply_to, after}
use Rattle.edit_history.specs.Histories.{replay, IsLegalFrom}
use Rattle.edit_history.specs.Merging.{numbers}
use Rattle.edit_history.proofs.Cited.{merged_order}
use Rattle.del_laws.specs.Listed.{IsListed}
use Rattle.del_laws.proofs.Cited.{complex_is_sorted, listed_is_cell, same_members}
use Rattle.bucket_grid.specs.Grids.{bucket_of}
use Rattle.cell_store.specs.Buckets.{BucketContent, InHand, bucket_at, points_at}
use Rattle.cell_store.specs.Shares.{Stands, IsSound, Shows, entries_share}
use Rattle.cell_store.specs.Changes.{swapped_in, Follows, IsArrived, IsNext, IsSwapped, IsNoted}
use Rattle.cell_store.specs.Points.{came, goal_of}
use Rattle.cell_store.specs.Ready.{CanCome}
use Rattle.cell_store.proofs.AnyLaws.{any_keeps_hold, came_free}
use Rattle.cell_store.specs.Swaps.{touches}
use Rattle.cell_store.specs.Meshes.{AllInHand, HasPlaces, IsWhole, MeshView, IsHoldOf, with_entry, by_number}
use Rattle.cell_store.specs.Meshes.{history_in, mesh_in, all_entries, all_cells, HistoryIs, MeshIs, MeshGathersHistory}
use Rattle.cell_store.specs.Meshes.{MeshGathersComplex, AllAreHeld, MoreAreHeld, within_64_bits}
use Rattle.bucket_grid.proofs.Cited.{bucket_below}
use Rattle.cell_store.proofs.HandLaws.{fewer_stand, held_point}
use Rattle.cell_store.proofs.NextLaws.{next_entry}
use Rattle.cell_store.proofs.ShareLaws.{touched, sound_of, stands_shows}

-- ---- what is in hand

-- in a hold of all buckets the bucket of every point is in hand
pub point_held : (hold : InHand) (p : ℕ) → HasPlaces hold → AllInHand hold →
    IsSome (bucket_at hold.places (bucket_of hold.grid p))
point_held hold p has all = all (bucket_of hold.grid p)
    (subst (λ n. bucket_of hold.grid p < n) (sym has.places) (bucket_below hold.grid p has.size))

-- so with the hold of a mesh
pub held_by : (mesh : MeshView) (hold : InHand) (p : ℕ) → IsHoldOf mesh hold →
    IsSome (bucket_at hold.places (bucket_of hold.grid p))
held_by mesh hold p i = point_held hold p i.whole.has i.whole.all

-- which shows the set that the history leaves
pub shows_of : (mesh : MeshView) (hold : InHand) → IsHoldOf mesh hold → Shows hold (replay mesh.history)
shows_of mesh hold i = stands_shows hold mesh.history i.stands

-- and all cells are held
pub all_are_held : AllAreHeld
all_are_held hold l has all c k p i = point_held hold p has all

-- cells that are held are held where more buckets are in hand
pub more_are_held : MoreAreHeld
more_are_held few many l am held c k p i =
    let s = some_of (bucket_at few.places (bucket_of few.grid p)) (held c k p i) in
    subst (λ g. IsSome (bucket_at many.places (bucket_of g p))) am.grid
    (is_there (bucket_at many.places (bucket_of few.grid p)) s.0 (am.buckets (bucket_of few.grid p) s.0 s.1))

-- ---- the entries of the first buckets

-- the entries of a bucket, if it is there
abbrev pub entries_of : Option BucketContent → List Entry
entries_of o = option_map_or (λ c. c.entries) o []

-- the number of the entry's bucket is below n
abbrev is_below : ℕ → ℕ → Entry → Bool
is_below g n e = nat_lt (bucket_of g (point_of e.edit)) n

-- it is n
abbrev is_at : ℕ → ℕ → Entry → Bool
is_at g n e = bucket_of g (point_of e.edit) == n

-- the entries below one more number: those below, and those at it
one_more : (g n : ℕ) (h : List Entry) → IsPermutation (filter (is_below g n) h ++ filter (is_at g n) h)
    (filter (is_below g (suc n)) h)
one_more g n h =
    let f = filter_and (is_below g n) (is_below g (suc n)) (is_below g n) h (λ e. lower (bucket_of g (point_of e.edit)))
    in
    let k = filter_and (λ e. not (is_below g n e)) (is_below g (suc n)) (is_at g n) h
    (λ e. equal (bucket_of g (point_of e.edit))) in
    let b = IsPermutation-filter_both (is_below g n) (λ e. not (is_below g n e)) (λ e. refl)
    (filter (is_below g (suc n)) h) in
    IsPermutation-sym (filter (is_below g (suc n)) h) (filter (is_below g n) h ++ filter (is_at g n) h)
    (subst (λ m. IsPermutation (filter (is_below g (suc n)) h) (filter (is_below g n) h ++ m)) k
    (subst (λ m. IsPermutation (filter (is_below g (suc n)) h)
    (m ++ filter (λ e. not (is_below g n e)) (filter (is_below g (suc n)) h))) f b))
  where
    lower : (m : ℕ) → (nat_lt m (suc n) && nat_lt m n) ≡ nat_lt m n
    lower m = grind (arith, nat_tests)

    equal : (m : ℕ) → (nat_lt m (suc n) && not (nat_lt m n)) ≡ (m == n)
    equal m = grind (arith, nat_tests)

-- a bucket's entries are its share
entries_are : (hold : InHand) (h : List Entry) (b : ℕ) → Stands hold h → IsSome (bucket_at hold.places b) →
    entries_of (bucket_at hold.places b) ≡ entries_share hold.grid b h
entries_are hold h b st s =
    let c = some_of (bucket_at hold.places b) s in
    ap entries_of c.1 ∙ (st.shares b c.0 c.1).entries

-- what the first buckets have and the next
pub next_gathered : {Y : Type 0} (f : Option BucketContent → List Y) (l : List (Option BucketContent)) (n : ℕ) →
    n < length l → flat_map f (take (suc n) l) ≡ flat_map f (take n l) ++ f (bucket_at l n)
next_gathered f l n k = ap (flat_map f) (take_suc l n None k) ∙ flat_map-append f (take n l) (bucket_at l n ∷ [])
    ∙ ap (λ m. flat_map f (take n l) ++ m) (append-nil (f (bucket_at l n)))

-- the entries of the first n buckets are those of the history whose bucket has a number below n, in another order
gathered : (hold : InHand) (h : List Entry) → AllInHand hold → Stands hold h → (n : ℕ) → n ≤ length hold.places →
    IsPermutation (flat_map entries_of (take n hold.places)) (filter (is_below hold.grid n) h)
gathered hold h all st zero k = rw (none_pass (is_below hold.grid 0) h
    (λ e. none (bucket_of hold.grid (point_of e.edit)))) (IsPermutation-refl [])
  where
    none : (m : ℕ) → nat_lt m 0 ≡ false
    none m = grind (arith, nat_tests)
gathered hold h all st (suc n) k =
    let b : n < length hold.places = omega arith in
    let e = next_gathered entries_of hold.places n b
    ∙ ap (λ (m : List Entry). flat_map entries_of (take n hold.places) ++ m) (entries_are hold h n st (all n b)) in
    let p = IsPermutation-append (flat_map entries_of (take n hold.places)) (filter (is_below hold.grid n) h)
    (entries_share hold.grid n h) (entries_share hold.grid n h) (gathered hold h all st n (omega arith))
    (IsPermutation-refl (entries_share hold.grid n h)) in
    subst (λ m. IsPermutation m (filter (is_below hold.grid (suc n)) h)) (sym e)
    (IsPermutation-trans (flat_map entries_of (take n hold.places) ++ entries_share hold.grid n h)
    (filter (is_below hold.grid n) h ++ entries_share hold.grid n h) (filter (is_below hold.grid (suc n)) h) p
    (one_more hold.grid n h))

-- those of all buckets are the history, in another order
pub gathers : (hold : InHand) (h : List Entry) → HasPlaces hold → AllInHand hold → Stands hold h →
    IsPermutation (all_entries hold.places) h
gathers hold h has all st =
    let p = gathered hold h all st (length hold.places) (omega arith) in
    let e = all_pass (is_below hold.grid (length hold.places)) h
    (λ e. below_true (bucket_of hold.grid (point_of e.edit)) (length hold.places)
    (subst (λ n. bucket_of hold.grid (point_of e.edit) < n) (sym has.places)
    (bucket_below hold.grid (point_of e.edit) has.size))) in
    subst (λ m. IsPermutation (all_entries hold.places) m) e
    (subst (λ m. IsPermutation (flat_map entries_of m) (filter (is_below hold.grid (length hold.places)) h))
    (take-length hold.places) p)

-- ---- entries by number

-- numbered from n on
abbrev IsNumbered : ℕ → List Entry → Type 0
IsNumbered n [] = Unit {0}
IsNumbered n (e ∷ l) = (e.number ≡ n) × IsNumbered (n + 1) l

-- the entries of a legal history are numbered from n on
legal_numbered : (n : ℕ) (s : List ℕ) (h : List Entry) → IsLegalFrom n s h → IsNumbered n h
legal_numbered n s [] l = tt
legal_numbered n s (e ∷ h) l = (l.0, legal_numbered (n + 1) (after s e.edit) h l.2)

-- and so are entries whose numbers are n and those after it
listed_numbered : (n : ℕ) (l : List Entry) → numbers l ≡ range_with_len n (length l) → IsNumbered n l
listed_numbered n [] e = tt
listed_numbered n (d ∷ l) e = (cc, listed_numbered (n + 1) l cc)

-- the numbers of entries that are numbered so
numbers_are : (n : ℕ) (l : List Entry) → IsNumbered n l → numbers l ≡ range_with_len n (length l)
numbers_are n [] k = refl
numbers_are n (d ∷ l) k = rw k.0 (ap (λ (m : List ℕ). n ∷ m) (numbers_are (n + 1) l k.1))

-- none of them is below n
number_from : (n : ℕ) (l : List Entry) (e : Entry) → IsNumbered n l → IsIn e l → n ≤ e.number
number_from n [] e k i = absurd i
number_from n (d ∷ l) e k (inl q) = let s = ap (λ (x : Entry). x.number) q in omega (arith, s, k.0)
number_from n (d ∷ l) e k (inr i) = let s = number_from (n + 1) l e k.1 i in omega arith

-- numbered lists with the same entries are one
same_numbered : (n : ℕ) (l h : List Entry) → IsNumbered n l → IsNumbered n h → ((e : Entry) → IsIn e l → IsIn e h) →
    ((e : Entry) → IsIn e h → IsIn e l) → l ≡ h
same_numbered n [] [] k m f b = refl
same_numbered n [] (e ∷ h) k m f b = absurd (b e (inl refl))
same_numbered n (d ∷ l) [] k m f b = absurd (f d (inl refl))
same_numbered n (d ∷ l) (e ∷ h) k m f b = rw first
    (ap (λ (t : List Entry). e ∷ t) (same_numbered (n + 1) l h k.1 m.1 forth back))
  where
    first : d ≡ e
    first = elim (f d (inl refl)) [
      | inl q ↦ sym q
      | inr i ↦ (let s = number_from (n + 1) h d m.1 i in let t = k.0 in
          absurd (omega arith))
    ]

    forth : (x : Entry) → IsIn x l → IsIn x h
    forth x i = elim (f x (inr i)) [
      | inl q ↦ (let s = number_from (n + 1) l x k.1 i in let t =
          ap (λ (y : Entry). y.number) q in let u = m.0 in absurd (omega arith))
      | inr j ↦ j
    ]

    back : (x : Entry) → IsIn x h → IsIn x l
    back x i = elim (b x (inr i)) [
      | inl q ↦ (let s = number_from (n + 1) h x m.1 i in let t =
          ap (λ (y : Entry). y.number) q in let u = k.0 in absurd (omega arith))
      | inr j ↦ j
    ]

-- ---- the laws

-- the entries of all buckets gather the history, and in the order of numbers they are it
pub mesh_gathers : MeshGathersHistory
mesh_gathers mesh h m st = record {
  entries = p;
  numbered = subst (λ n. IsPermutation (numbers (all_entries mesh.places)) (range_with_len 0 n))
      (length_permutation (all_entries mesh.places) h p)
      (subst (IsPermutation (numbers (all_entries mesh.places))) (numbers_are 0 h k)
      (IsPermutation-map (λ (e : Entry). e.number) (all_entries mesh.places) h p));
  ordered = λ l q e.
      same_numbered 0 l h (listed_numbered 0 l e) k
      (λ x i. in_moved h (all_entries mesh.places) x (IsPermutation-sym (all_entries mesh.places) h p)
      (in_moved (all_entries mesh.places) l x q i))
      (λ x i. in_moved l (all_entries mesh.places) x (IsPermutation-sym (all_entries mesh.places) l q)
      (in_moved (all_entries mesh.places) h x p i));
}
  where
    p : IsPermutation (all_entries mesh.places) h
    p = gathers mesh h m.has m.all st

    k : IsNumbered 0 h
    k = legal_numbered 0 [] h st.legal

-- ---- entries in order of number

-- no later entry has a lesser number
abbrev Rises : List Entry → Type 0
Rises [] = Unit {0}
Rises (e ∷ l) = ((d : Entry) → IsIn d l → e.number ≤ d.number) × Rises l

-- an entry of a list with one put in is that one, or one of the list
pub from_put : (e d : Entry) (l : List Entry) → IsIn d (with_entry e l) → (e ≡ d) ⊎ IsIn d l
from_put e d [] (inl q) = inl q
from_put e d [] (inr i) = absurd i
from_put e d (x ∷ l) i = by (ltb e.number x.number) i (from_put e d l)
  where
    by : (t : Bool) → IsIn d (cond t (e ∷ x ∷ l) (x ∷ with_entry e l)) →
        (IsIn d (with_entry e l) → (e ≡ d) ⊎ IsIn d l) → (e ≡ d) ⊎ IsIn d (x ∷ l)
    by true (inl q) f = inl q
    by true (inr j) f = inr j
    by false (inl q) f = inr (inl q)
    by false (inr j) f = elim (f j) [
      | inl q ↦ inl q
      | inr k ↦ inr (inr k)
    ]

-- put in by its number, an entry leaves the numbers rising
put_rises : (e : Entry) (l : List Entry) → Rises l → Rises (with_entry e l)
put_rises e [] r = ((λ d i. absurd i), tt)
put_rises e (x ∷ l) r = by (ltb e.number x.number) refl (put_rises e l r.1)
  where
    by : (t : Bool) → ltb e.number x.number ≡ t → Rises (with_entry e l) →
        Rises (cond t (e ∷ x ∷ l) (x ∷ with_entry e l))
    by true q s = (
      (λ d i. elim i [
        | inl p ↦ (let k : x.number ≡ d.number = ap (λ (y : Entry). y.number) p in let m : e.number < x.number =
            grind (arith, nat_tests) in omega arith)
        | inr j ↦ (let k = r.0 d j in let m : e.number < x.number = grind (arith, nat_tests) in omega arith)
      ]),
      r,
    )
    by false q s = (
      (λ d i. elim (from_put e d l i) [
        | inl p ↦ (let k : e.number ≡ d.number = ap (λ (y : Entry). y.number) p in let m : x.number ≤ e.number =
            grind (arith, nat_tests) in omega arith)
        | inr j ↦ r.0 d j
      ]),
      s,
    )

-- the list with it has it and the others, in another order
put_moves : (e : Entry) (l : List Entry) → IsPermutation (e ∷ l) (with_entry e l)
put_moves e [] = IsPermutation-refl (e ∷ [])
put_moves e (x ∷ l) = by (ltb e.number x.number) (put_moves e l)
  where
    by : (t : Bool) → IsPermutation (e ∷ l) (with_entry e l) →
        IsPermutation (e ∷ x ∷ l) (cond t (e ∷ x ∷ l) (x ∷ with_entry e l))
    by true p = IsPermutation-refl (e ∷ x ∷ l)
    by false p = IsPermutation-trans (e ∷ x ∷ l) (x ∷ e ∷ l) (x ∷ with_entry e l)
        (IsPermutation-sym (x ∷ e ∷ l) (e ∷ x ∷ l) (IsPermutation-middle (x ∷ []) e l))
        (IsPermutation-cons x (e ∷ l) (with_entry e l) p)

-- in the order of numbers the numbers rise
sorted_rises : (l : List Entry) → Rises (by_number l)
unfolding by_number
sorted_rises [] = tt
sorted_rises (e ∷ l) = put_rises e (by_number l) (sorted_rises l)

-- it is another order of the same entries
pub sorted_moves : (l : List Entry) → IsPermutation l (by_number l)
unfolding by_number
sorted_moves [] = IsPermutation-refl []
sorted_moves (e ∷ l) = IsPermutation-trans (e ∷ l) (e ∷ by_number l) (with_entry e (by_number l))
    (IsPermutation-cons e l (by_number l) (sorted_moves l)) (put_moves e (by_number l))

-- what stands at a place of a list is one of it
in_at : (l : List Entry) (j : ℕ) (d : Entry) → j < length l → IsIn (slice_index_or l j d) l
in_at [] j d h = absurd (omega arith)
in_at (x ∷ l) zero d h = inl refl
in_at (x ∷ l) (suc j) d h = inr (in_at l j d (omega arith))

-- where no later entry has a lesser number they do not fall
rises_all : (l : List Entry) → Rises l → IsNonDecreasingBy (λ e. e.number) l
rises_all [] r i j d a b = absurd (omega arith)
rises_all (x ∷ l) r zero zero d a b = omega arith
rises_all (x ∷ l) r zero (suc j) d a b = r.0 (slice_index_or l j d) (in_at l j d (omega arith))
rises_all (x ∷ l) r (suc i) zero d a b = absurd (omega arith)
rises_all (x ∷ l) r (suc i) (suc j) d a b = rises_all l r.1 i j d (omega arith) (omega arith)

-- a hold of all buckets tells the history for which it stands
pub history_is : HistoryIs
history_is hold h w st =
    let g = mesh_gathers hold h w st in
    let l : List Entry = all_entries hold.places in
    g.ordered (by_number l) (sorted_moves l) (merged_order l (by_number l) g.numbered (sorted_moves l)
    (rises_all (by_number l) (sorted_rises l)))

-- and so the mesh of which it is the hold
pub mesh_is : MeshIs
mesh_is mesh hold i = λ k. record { grid = i.grid k; history = history_is hold mesh.history i.whole i.stands k }

-- the hold of a history is that of its mesh
pub own_hold : (hold : InHand) (h : List Entry) → IsWhole hold → Stands hold h → IsHoldOf (mesh_in hold) hold
own_hold hold h w st = record { grid = refl; whole = w; stands = subst (Stands hold) (sym (history_is hold h w st)) st }

-- ---- the cells of a mesh

-- what one of the lists has the lists have together
pub in_flat : {X Y : Type 0} (f : X → List Y) (l : List X) (i : ℕ) (d : X) (y : Y) → i < length l →
    IsIn y (f (slice_index_or l i d)) → IsIn y (flat_map f l)
in_flat f [] i d y h k = absurd (omega arith)
in_flat f (x ∷ l) zero d y h k = in_left y (f x) (flat_map f l) k
in_flat f (x ∷ l) (suc i) d y h k = in_right y (f x) (flat_map f l) (in_flat f l i d y (omega arith) k)

-- and what they have together one of them has
pub flat_from : {X Y : Type 0} (f : X → List Y) (l : List X) (d : X) (y : Y) → IsIn y (flat_map f l) →
    (i : ℕ) × IsIn y (f (slice_index_or l i d))
flat_from f [] d y k = absurd k
flat_from f (x ∷ l) d y k = elim (from_append y (f x) (flat_map f l) k) [
  | inl j ↦ (0, j)
  | inr j ↦ (let r = flat_from f l d y j in (suc r.0, r.1))
]

-- the cells of a bucket, if it is there
abbrev pub cells_of : Option BucketContent → List Cell
cells_of o = option_map_or (λ c. c.cells) o []

-- a cell of a complex has a point
pub has_point : (s : List ℕ) (c : Cell) → IsListed s c → (p : ℕ) × IsIn p (points_of c)
has_point s (Full q) l = (l.a, subst (IsIn l.a) (sym l.is) (inl refl))
has_point s (Open t) l = (l.a, subst (IsIn l.a) (sym l.is) (inl refl))

-- the cells of all buckets are those of the complex, in any order and any number of times
cells_are : (mesh : InHand) (s : List ℕ) → IsWhole mesh → Shows mesh s →
    AreSameCells (all_cells mesh.places) (complex s)
cells_are mesh s m sh = (forth, back)
  where
    -- of a bucket in hand
    known : (b : ℕ) (o : Option BucketContent) → bucket_at mesh.places b ≡ o → (c : Cell) → IsIn c (cells_of o) →
        IsIn c (complex s)
    known b None e c i = absurd i
    known b (Some x) e c i = (filtered_from (touches mesh.grid b) (complex s) c
        (subst (IsIn c) ((sh.sights b x e).cells) i)).0

    forth : (c : Cell) → IsIn c (all_cells mesh.places) → IsIn c (complex s)
    forth c i = let r = flat_from cells_of mesh.places None c i in known r.0 (bucket_at mesh.places r.0) refl c r.1

    back : (c : Cell) → IsIn c (complex s) → IsIn c (all_cells mesh.places)
    back c i =
        let p = has_point s c (listed_is_cell s c sh.ascending i) in
        let x = some_of (bucket_at mesh.places (bucket_of mesh.grid p.0)) (point_held mesh p.0 m.has m.all) in
        let k = filtered_true (touches mesh.grid (bucket_of mesh.grid p.0)) (complex s) c i
        (touched mesh.grid p.0 (bucket_of mesh.grid p.0) c refl p.1) in
        in_flat cells_of mesh.places (bucket_of mesh.grid p.0) None c
        (subst (λ n. bucket_of mesh.grid p.0 < n) (sym m.has.places) (bucket_below mesh.grid p.0 m.has.size))
        (subst (λ o. IsIn c (cells_of o)) (sym x.1)
        (subst (IsIn c) (sym (sh.sights (bucket_of mesh.grid p.0) x.0 x.1).cells) k))

-- and in the order of cells, each once, they are the complex
pub mesh_gathers_cells : MeshGathersComplex
mesh_gathers_cells mesh s m sh = record {
  cells = cells_are mesh s m sh;
  ordered = λ l o e.
      let k = cells_are mesh s m sh in
      same_members l (complex s) o (complex_is_sorted s sh.ascending) (λ c i. k.0 c (e.1 c i)) (λ c i. e.0 c (k.1 c i));
}

-- ---- the count

-- what the loop over the buckets counts
pub count_next : (l : List (Option BucketContent)) (n count entries : ℕ) → n < length l →
    count ≡ min (length (flat_map entries_of (take n l))) (2 ^ 64 - 1) → entries ≡ length (entries_of (bucket_at l n)) →
    min (count + entries) (2 ^ 64 - 1) ≡ min (length (flat_map entries_of (take (n + 1) l))) (2 ^ 64 - 1)
count_next l n count entries k e f =
    let s = ap length (next_gathered entries_of l n k)
    ∙ length-append (flat_map entries_of (take n l)) (entries_of (bucket_at l n)) in
    rw add-one (rw s (step _ _ _ _ e f))
  where
    step : (c n a b : ℕ) → c ≡ min a (2 ^ 64 - 1) → n ≡ b → min (c + n) (2 ^ 64 - 1) ≡ min (a + b) (2 ^ 64 - 1)
    step c n a b = omega arith

-- once all buckets are counted, the count is that of the history
pub count_is : (hold : InHand) (n count : ℕ) → length hold.places ≤ n →
    count ≡ min (length (flat_map entries_of (take n hold.places))) (2 ^ 64 - 1) →
    count ≡ within_64_bits (length (history_in hold.places))
count_is hold n count k e =
    e ∙ ap (λ m. min (length (flat_map entries_of m)) (2 ^ 64 - 1)) (whole hold.places n k)
    ∙ ap within_64_bits (sym (length_permutation (all_entries hold.places) (history_in hold.places)
    (sorted_moves (all_entries hold.places))))
  where
    whole : {X : Type 0} (l : List X) (n : ℕ) → length l ≤ n → take n l ≡ l
    whole [] zero k = refl
    whole [] (suc n) k = refl
    whole (x ∷ l) zero k = absurd (omega arith)
    whole {X} (x ∷ l) (suc n) k = ap (λ (m : List X). x ∷ m) (whole l n (omega arith))

-- ---- a mesh after a change

-- the hold with other room
pub roomed : (mesh : MeshView) (old new : InHand) → new.grid ≡ old.grid → new.places ≡ old.places → IsHoldOf mesh old →
    IsHoldOf mesh new
roomed mesh old new e f i = record {
  grid = e ∙ i.grid;
  whole = record {
    has = record {
      size = rw e i.whole.has.size;
      places =
          ap length f ∙ i.whole.has.places ∙ ap (λ g. g * g * g) (sym e);
    };
    all = λ b k. subst (λ l. IsSome (bucket_at l b)) (sym f) (i.whole.all b (subst (λ l. b < length l) f k));
  };
  stands = fewer_stand new old mesh.history (record {
    grid = e;
    buckets =
        λ b c k. sym (ap (λ l. bucket_at l b) f) ∙ k;
  }) i.stands;
}

-- the hold after all that an entry makes of it
pub changed_hold : (mesh : MeshView) (old swap put new : InHand) (gone fresh : List Cell) (e : Entry) →
    IsHoldOf mesh old → IsNext mesh.history e gone fresh → IsSwapped gone fresh old swap → IsArrived e swap put →
    IsNoted e put new → IsHoldOf (record mesh { history = mesh.history ++ e ∷ [] }) new
changed_hold mesh old swap put new gone fresh e i next sw ar nd = record {
  grid = nd.grid ∙ ar.grid ∙ sw.grid ∙ i.grid;
  whole = record {
    has = record {
      size = rw nd.grid (rw ar.grid (rw sw.grid i.whole.has.size));
      places =
          nd.count ∙ ar.count ∙ sw.count ∙ i.whole.has.places ∙ ap (λ g. g * g * g) (sym (nd.grid ∙ ar.grid ∙ sw.grid));
    };
    all = λ b k.
        subst IsSome (sym (nd.places b)) (some_mapped _ (bucket_at put.places b)
        (subst IsSome (sym (ar.places b)) (some_mapped _ (bucket_at swap.places b)
        (subst IsSome (sym (sw.places b)) (some_mapped _ (bucket_at old.places b)
        (i.whole.all b (subst (λ n. b < n) (nd.count ∙ ar.count ∙ sw.count) k)))))));
  };
  stands = any_keeps_hold mesh.history e gone fresh old swap put new i.stands next sw ar nd;
}

-- one more is counted
pub count_more : (h : List Entry) (e : Entry) (n count : ℕ) → n ≡ within_64_bits (length h) →
    count ≡ min (n + 1) (2 ^ 64 - 1) → count ≡ within_64_bits (length (h ++ e ∷ []))
count_more h e n count k q = step count n (length h) (length (h ++ e ∷ [])) q k (length-append h (e ∷ []))
  where
    step : (c n a b : ℕ) → c ≡ min (n + 1) (2 ^ 64 - 1) → n ≡ min a (2 ^ 64 - 1) → b ≡ a + 1 → c ≡ min b (2 ^ 64 - 1)
    step c n a b = omega arith

-- the history of a mesh is sound
pub mesh_sound : (hold : InHand) (mesh : MeshView) → mesh_in hold ≡ mesh → IsHoldOf (mesh_in hold) hold →
    IsSound mesh.history
mesh_sound hold mesh v i = subst (λ (m : MeshView). IsSound m.history) v
    (sound_of hold (history_in hold.places) i.stands)

-- what the change of a mesh makes of its hold and of its count: the mesh with the entry
pub mesh_changed : (old ready swap put new : InHand) (mesh : MeshView) (gone fresh : List Cell) (e : Entry)
    (n count : ℕ) → mesh_in old ≡ mesh →
    IsHoldOf (mesh_in old) old × (n ≡ within_64_bits (length (history_in old.places))) →
    HasKeys e.edit → Follows mesh.history e gone fresh → ready.grid ≡ old.grid → ready.places ≡ old.places →
    IsSwapped gone fresh ready swap → IsArrived e swap put → IsNoted e put new → count ≡ min (n + 1) (2 ^ 64 - 1)
    → (mesh_in new ≡ record mesh { history = mesh.history ++ e ∷ [] })
    × (IsHoldOf (mesh_in new) new × (count ≡ within_64_bits (length (history_in new.places))))
mesh_changed old ready swap put new mesh gone fresh e n count v i keys follows g p sw ar nd q =
    let own = subst (λ m. IsHoldOf m old) v i.0 in
    let next = next_entry mesh.history e gone fresh (mesh_sound old mesh v i.0) keys follows in
    let k = changed_hold mesh ready swap put new gone fresh e (roomed mesh old ready g p own) next sw ar nd in
    let w = mesh_is (record mesh { history = mesh.history ++ e ∷ [] }) new k in
    let h = ap (λ (m : MeshView). m.history) v in (
      w,
      (
        subst (λ m. IsHoldOf m new) (sym w) k,
        count_more mesh.history e n count (i.1 ∙ ap (λ l. within_64_bits (length l)) h) q
            ∙ ap (λ (m : MeshView). within_64_bits (length m.history)) (sym w),
      ),
    )

-- the place to which a point has moved can come into a hold that shows the set, after the cells were exchanged
pub goal_free :
    (hold ready swap : InHand) (s : List ℕ) (gone fresh : List Cell) (e : Entry) → Shows hold s →
    ((q : ℕ) → goal_of e.edit ≡ Some q → IsSome (bucket_at hold.places (bucket_of hold.grid q))) →
    e.reply ≡ reply_to s e.edit → ready.grid ≡ hold.grid → ready.places ≡ hold.places →
    IsSwapped gone fresh ready swap → swap.room.point ≡ goal_of e.edit → IfSome (came e.edit e.reply) (CanCome swap)
goal_free hold ready swap s gone fresh e shows held right g p sw room =
    if_some (λ q. (is_among q s ≡ false) × (goal_of e.edit ≡ Some q)) (CanCome swap) (came e.edit e.reply) each
    (came_free s e.edit e.reply right)
  where
    same : (b : ℕ) → points_at swap.places b ≡ points_at hold.places b
    same b =
        ap (λ o. option_map_or (λ (x : BucketContent). x.points) o []) (sw.places b)
        ∙ keeps (bucket_at ready.places b) ∙ ap (λ l. points_at l b) p
      where
        keeps : (o : Option BucketContent) →
            option_map_or (λ (x : BucketContent). x.points) (option_map (swapped_in ready.grid b gone fresh) o) []
            ≡ option_map_or (λ x. x.points) o []
        keeps None = refl
        keeps (Some c) = refl

    each : (q : ℕ) → (is_among q s ≡ false) × (goal_of e.edit ≡ Some q) → CanCome swap q
    each q k = record {
      room = room ∙ k.1;
      absent =
          ap (λ n. is_among q (points_at swap.places (bucket_of n q))) (sw.grid ∙ g)
          ∙ ap (is_among q) (same (bucket_of hold.grid q))
          ∙ held_point hold s q shows (held q k.1) ∙ k.0;
    }

-- so with the hold of a mesh
pub goal_comes :
    (mesh : MeshView) (hold ready swap : InHand) (gone fresh : List Cell) (e : Entry) → IsHoldOf mesh hold →
    Follows mesh.history e gone fresh → ready.grid ≡ hold.grid → ready.places ≡ hold.places →
    IsSwapped gone fresh ready swap → swap.room.point ≡ goal_of e.edit → IfSome (came e.edit e.reply) (CanCome swap)
goal_comes mesh hold ready swap gone fresh e i f g p sw room =
    goal_free hold ready swap (replay mesh.history) gone fresh e (shows_of mesh hold i) (λ q k. held_by mesh hold q i)
    f.reply g p sw room
