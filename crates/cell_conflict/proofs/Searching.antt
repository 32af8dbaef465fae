-- The search for a first cell that a new point takes away, bucket by bucket.
use Rattle.std.specs.Prelude.{◌≡◌, refl, ℕ, ◌+◌, ◌*◌, ◌%◌, ◌<◌, ◌≤◌, true, List, [], ◌∷◌, None, Some, IsSome, ◌==◌}
use Rattle.std.specs.Prelude.{length}
use Rattle.std.proofs.Common.{inl, ap, sym, subst, ◌∙◌, arith}
use Rattle.point_order.specs.declared.cell.Cell.{Cell}
use Rattle.point_order.specs.declared.cell.Cell.TheVariants.{Full, Open}
use Rattle.point_order.specs.Complex.{complex}
use Rattle.point_order.specs.Facets.{points_of}
use Rattle.point_order.specs.Sets.{IsIn, IsAscending}
use Rattle.cell_store.specs.Buckets.{InHand, BucketContent, bucket_at, cells_in}
use Rattle.bucket_grid.specs.Grids.{bucket_of}
use Rattle.cell_store.specs.Shares.{Shows, NoneInHand}
use Rattle.cell_store.specs.Swaps.{touches}
use Rattle.bucket_grid.proofs.Cited.{bucket_below}
use Rattle.cell_store.proofs.Cited.{point_held, solid_set, touched}
use Rattle.cell_store.specs.Meshes.{AllInHand, HasPlaces}
use Rattle.del_laws.proofs.Cited.{listed_is_cell}
use Rattle.hole_laws.proofs.Cited.{some_rim}
use Rattle.hole_laws.specs.Edits.{IsNew, GoesFrom}
use Rattle.std.proofs.lemmas.Bool.{eqb-true}
use Rattle.std.proofs.lemmas.List.Sorted.{IsPermutation-sym}
use Rattle.std.specs.List.Sorted.{IsPermutation}
use Rattle.list_laws.proofs.Cited.{any_from, filtered_from, filtered_true, in_moved, round, some_of}
use Rattle.cell_conflict.specs.Searching.{NoneGoes}

-- the cells of a bucket in hand
cells_are : (hold : InHand) (b : ℕ) (x : BucketContent) → bucket_at hold.places b ≡ Some x →
    cells_in hold.places b ≡ x.cells
cells_are hold b x e = rw e refl

-- a cell of a bucket in hand is one of the complex
pub in_complex : (hold : InHand) (h : List ℕ) (b : ℕ) (c : Cell) → Shows hold h → IsSome (bucket_at hold.places b) →
    IsIn c (cells_in hold.places b) → IsIn c (complex h) × (touches hold.grid b c ≡ true)
in_complex hold h b c st o i =
    let x = some_of (bucket_at hold.places b) o in
    let share = (st.sights b x.0 x.1).cells in
    filtered_from (touches hold.grid b) (complex h) c (subst (λ (l : List Cell). IsIn c l)
    (cells_are hold b x.0 x.1 ∙ share) i)

-- and the bucket of one of its points is in hand
pub not_none : (hold : InHand) (h : List ℕ) (b : ℕ) (c : Cell) → Shows hold h → IsSome (bucket_at hold.places b) →
    IsIn c (cells_in hold.places b) → NoneInHand hold (points_of c) → ⊥
not_none hold h b c st o i none =
    let x = some_of (bucket_at hold.places b) o in
    let r = any_from (λ p. bucket_of hold.grid p == b) (points_of c) (in_complex hold h b c st o i).1 in
    let n = none r.0 r.1 in
    clash (sym (subst (λ k. bucket_at hold.places k ≡ None) (eqb-true (bucket_of hold.grid r.0) b r.2) n) ∙ x.1)
  where
    clash : {y : BucketContent} → None ≡ Some y → ⊥
    clash e = cc e

-- the cells of a bucket, in another order
pub in_items : (hold : InHand) (b : ℕ) (x : BucketContent) (rest : List Cell) (c : Cell) →
    bucket_at hold.places b ≡ Some x → IsPermutation x.cells rest → IsIn c (cells_in hold.places b) → IsIn c rest
in_items hold b x rest c e p i =
    in_moved' x.cells rest c p (subst (λ (l : List Cell). IsIn c l) (cells_are hold b x e) i)
  where
    in_moved' : (l m : List Cell) (c : Cell) → IsPermutation l m → IsIn c l → IsIn c m
    in_moved' l m c p i = in_moved m l c (IsPermutation-sym l m p) i

-- a cell of them is one of the bucket
pub of_items : (hold : InHand) (b : ℕ) (x : BucketContent) (rest : List Cell) (c : Cell) →
    bucket_at hold.places b ≡ Some x → IsPermutation x.cells rest → IsIn c rest → IsIn c (cells_in hold.places b)
of_items hold b x rest c e p i =
    subst (λ (l : List Cell). IsIn c l) (sym (cells_are hold b x e)) (in_moved x.cells rest c p i)

-- an empty list has no member
pub none_in : (l : List Cell) (c : Cell) → length l ≡ 0 → IsIn c l → ⊥
none_in [] c e i = i
none_in (x ∷ l) c e i = cc e

-- ---- all buckets

-- a cell of a complex has a point
pub some_point : (s : List ℕ) → IsAscending s → (c : Cell) → IsIn c (complex s) → (p : ℕ) × IsIn p (points_of c)
some_point s a (Full q) i =
    let l = listed_is_cell s (Full q) a i in (l.a, subst (λ (v : List ℕ). IsIn l.a v) (sym l.is) (inl refl))
some_point s a (Open q) i =
    let l = listed_is_cell s (Open q) a i in (l.a, subst (λ (v : List ℕ). IsIn l.a v) (sym l.is) (inl refl))

-- some cell goes, and it is in the bucket of one of its points
pub some_goes :
    (hold : InHand) (h : List ℕ) (p : ℕ) → HasPlaces hold → AllInHand hold → Shows hold h → IsNew h p →
    (c : Cell) × GoesFrom h p c × ((b : ℕ) × (b < length hold.places) × IsIn c (cells_in hold.places b))
some_goes hold h p has all st new =
    let s = solid_set hold h st in
    let rim = (some_rim h p s new).1 in
    let e = some_point h s.set.ascending rim.gone rim.goes.before in
    let b = bucket_of hold.grid e.0 in
    let x = some_of (bucket_at hold.places b) (point_held hold e.0 has all) in (
      rim.gone,
      rim.goes,
      (
        b,
        subst (λ n. b < n) (sym has.places) (bucket_below hold.grid e.0 has.size),
        subst (λ (l : List Cell). IsIn rim.gone l) (sym (cells_are hold b x.0 x.1 ∙ (st.sights b x.0 x.1).cells))
            (filtered_true (touches hold.grid b) (complex h) rim.gone rim.goes.before
            (touched hold.grid e.0 b rim.gone refl e.1)),
      ),
    )
