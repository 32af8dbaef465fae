-- A hold with one point more, for a while.
use Rattle.std.specs.Prelude.{◌≡◌, ℕ, suc, ◌==◌, Bool, true, false, cond, not, List, [], ◌∷◌, ◌++◌, ◌⊎◌, Option, None}
use Rattle.std.specs.Prelude.{Some, IsSome, length}
use Rattle.std.specs.List.{filter}
use Rattle.std.specs.List.Sorted.{IsStrictlySortedBy}
use Rattle.std.specs.Option.{option_map, option_map_or}
use Rattle.std.proofs.Common.{refl, sym, ◌∙◌, ap, subst, inl, inr, arith}
use Rattle.std.proofs.lemmas.Bool.{eqb-true}
use Rattle.std.proofs.lemmas.List.Kept.{IsStrictlySortedBy-filter}
use Rattle.list_laws.proofs.Cited.{among_from, among_true, any_from, false_if, filtered_ascending, filtered_from}
use Rattle.list_laws.proofs.Cited.{filtered_true, from_append, in_left, in_right, some_mapped}
use Rattle.list_laws.proofs.Cited.{same_members as same-members}
use Rattle.point_order.specs.declared.cell.Cell.{Cell}
use Rattle.point_order.specs.CellOrder.{cell_cmp}
use Rattle.point_order.specs.Complex.{complex}
use Rattle.point_order.specs.Facets.{points_of}
use Rattle.point_order.specs.Sets.{IsIn, IsAscending, is_among, with_point, without_point}
use Rattle.point_order.proofs.Cited.{ascending_with, cell_in_or_not, in_with, in_with_new, in_with_old}
use Rattle.edit_history.specs.declared.history.Edit.TheVariants.{Add}
use Rattle.edit_history.specs.declared.history.Reply.{Reply}
use Rattle.edit_history.specs.Edits.{after, changed}
use Rattle.edit_history.proofs.Cited.{inserts}
use Rattle.del_laws.proofs.Cited.{complex_is_sorted, same_members}
use Rattle.hole_laws.specs.Lists.{Goes}
use Rattle.hole_laws.proofs.Cited.{changes_reached}
use Rattle.bucket_grid.specs.Grids.{bucket_of}
use Rattle.cell_store.specs.Buckets.{BucketContent, InHand, bucket_at, cells_in, points_at}
use Rattle.cell_store.specs.Swaps.{touches, swapped, without_cells}
use Rattle.cell_store.specs.Shares.{IsSight}
use Rattle.cell_store.specs.Changes.{dropped_in, put_in, swapped_in, IsDropped, IsSwapped, NoneTouches}
use Rattle.cell_changes.specs.Changes.{IsChange}
use Rattle.cell_store.specs.Ready.{AreHeld, FindsCells}
use Rattle.cell_store.proofs.HandLaws.{held_point}
use Rattle.cell_store.specs.Touches.{IsTouched}
use Rattle.cell_store.specs.Between.{ChangesCompose, Enters, EnteredShows, WasEntered, IsEntered, LeftIsSame}
use Rattle.cell_store.specs.Between.{SightOutside}
use Rattle.cell_stars.proofs.Cited.{swapped_back, swapped_none, swapped_sorted}
use Rattle.cell_store.proofs.AnyLaws.{change_finds_cells, put_points}
use Rattle.cell_store.proofs.NextLaws.{cells_next, filter_with_else, lies, mapped_some}
use Rattle.cell_store.proofs.ShareLaws.{solid_set}
use Rattle.cell_store.proofs.TouchLaws.{all_out, left_out, own_touched, with_solid as entered_solid}

-- the cells of a complex that touch a bucket, exchanged, are those of the next complex
pub cells_then : (g b : ℕ) (s t : List ℕ) (gone fresh : List Cell) → IsAscending s → IsAscending t →
    IsChange (complex s) (complex t) gone fresh → swapped g b gone fresh (filter (touches g b) (complex s)) ≡ filter
    (touches g b) (complex t)
cells_then g b s t gone fresh i j ch =
    let r = cells_next g b (complex s) (complex t) gone fresh ch in
    same_members (swapped g b gone fresh (filter (touches g b) (complex s))) (filter (touches g b) (complex t))
    (swapped_sorted g b gone fresh (filter (touches g b) (complex s))
    (IsStrictlySortedBy-filter cell_cmp (touches g b) (complex s) (complex_is_sorted s i)))
    (IsStrictlySortedBy-filter cell_cmp (touches g b) (complex t) (complex_is_sorted t j)) r.0 r.1

-- a hold that a point has entered shows the set with the point
pub entered_shows : EnteredShows
entered_shows hold new s gone fresh p en e =
    let i = entered_solid s p (solid_set hold s en.shown) en.new in
    record { ascending = i.set.ascending; keys = i.set.keys; solid = i.solid; sights = each }
  where
    each : (b : ℕ) (c : BucketContent) → bucket_at new.places b ≡ Some c → IsSight new.grid b (with_point p s) c
    each b c q =
        let g = hold.grid in
        let r = mapped_some (put_in e.between.grid b p) (bucket_at e.between.places b) c (sym (e.put.places b) ∙ q) in
        let u = mapped_some (swapped_in g b gone fresh) (bucket_at hold.places b) r.0 (sym (e.swapped.places b) ∙ r.1)
        in
        let sight = en.shown.sights b u.0 u.1 in
        let made : put_in g b p (swapped_in g b gone fresh u.0) ≡ c =
        ap (put_in g b p) u.2 ∙ ap (λ h. put_in h b p r.0) (sym e.swapped.grid) ∙ r.2 in
        let seen : IsSight g b (with_point p s) (put_in g b p (swapped_in g b gone fresh u.0)) = record {
          points = put_points g b p s (swapped_in g b gone fresh u.0) en.shown.ascending sight.points;
          cells = cells_kept g b p (swapped_in g b gone fresh u.0) ∙ ap (swapped g b gone fresh) sight.cells ∙
              cells_then g b s (with_point p s) gone fresh en.shown.ascending (ascending_with p s en.shown.ascending)
              en.change;
        } in
        subst (λ h. IsSight h b (with_point p s) c) (sym (e.put.grid ∙ e.swapped.grid))
        (subst (IsSight g b (with_point p s)) made seen)
      where
        cells_kept : (g b p : ℕ) (c : BucketContent) → (put_in g b p c).cells ≡ c.cells
        cells_kept g b p c = by (lies g b p)
          where
            by : (t : Bool) → (cond t (record c { points = with_point p c.points }) c).cells ≡ c.cells
            by true = refl
            by false = refl

-- ---- there and back

-- a point that was not there, put in and taken out
with_without : (p : ℕ) (l : List ℕ) → IsAscending l → (IsIn p l → ⊥) → without_point p (with_point p l) ≡ l
with_without p l a n =
    same-members (without_point p (with_point p l)) l (filtered_ascending (λ q. not (q == p)) (with_point p l)
    (ascending_with p l a)) a
    (λ q i. let r = filtered_from (λ q. not (q == p)) (with_point p l) q i in elim (in_with p q l r.0)
    [ inl e ↦ absurd (other q r.1 (sym e)) | inr j ↦ j ])
    (λ q i. filtered_true (λ q. not (q == p)) (with_point p l) q (in_with_old p q l i)
    (differs q (λ e. n (subst (λ z. IsIn z l) e i))))
  where
    other : (q : ℕ) → not (q == p) ≡ true → q ≡ p → ⊥
    other q t e = by (q == p) refl t
      where
        by : (b : Bool) → (q == p) ≡ b → not b ≡ true → ⊥
        by true g k = cc k
        by false g k = cc (sym g ∙ ap (λ z. z == p) e ∙ same p)
          where
            same : (z : ℕ) → (z == z) ≡ true
            same z = grind arith

    differs : (q : ℕ) → (q ≡ p → ⊥) → not (q == p) ≡ true
    differs q f = by (q == p) refl
      where
        by : (b : Bool) → (q == p) ≡ b → not b ≡ true
        by true g = absurd (f (eqb-true q p g))
        by false g = refl

-- lists with the same at each place
places_same : (l m : List (Option BucketContent)) → length l ≡ length m → ((b : ℕ) → bucket_at l b ≡ bucket_at m b) →
    l ≡ m
places_same [] [] e f = refl
places_same [] (x ∷ m) e f = absurd (omega (arith, e))
places_same (x ∷ l) [] e f = absurd (omega (arith, e))
places_same (x ∷ l) (y ∷ m) e f = ap (λ (z : Option BucketContent). z ∷ l) (f 0) ∙ ap
    (λ (k : List (Option BucketContent)). y ∷ k) (places_same l m (omega (arith, e)) (λ b. f (suc b)))

-- one bucket there and back
back_same : (g b p : ℕ) (gone fresh : List Cell) (c : BucketContent) →
    swapped g b fresh gone (swapped g b gone fresh c.cells) ≡ c.cells →
    (lies g b p ≡ true → without_point p (with_point p c.points) ≡ c.points) →
    swapped_in g b fresh gone (dropped_in g b p (put_in g b p (swapped_in g b gone fresh c))) ≡ c
back_same g b p gone fresh c e f = by (lies g b p) refl
  where
    by : (t : Bool) → lies g b p ≡ t → swapped_in g b fresh gone (cond t
        (record (cond t (record (swapped_in g b gone fresh c) { points = with_point p c.points })
        (swapped_in g b gone fresh c)) {
          points = without_point p (cond t
              (record (swapped_in g b gone fresh c) { points = with_point p c.points })
              (swapped_in g b gone fresh c)).points;
        }) (cond t (record (swapped_in g b gone fresh c) { points = with_point p c.points })
        (swapped_in g b gone fresh c))) ≡ c
    by true q = λ i. record c { points = f q i; cells = e i }
    by false q = λ i. record c { cells = e i }

-- there and back a hold is as before
pub left_is_same : LeftIsSame
left_is_same hold mid new s gone fresh p en e l = (grid, places_same new.places hold.places count each)
  where
    g : ℕ
    g = hold.grid

    mid_grid : mid.grid ≡ g
    mid_grid = e.put.grid ∙ e.swapped.grid

    between_grid : l.between.grid ≡ g
    between_grid = l.dropped.grid ∙ mid_grid

    grid : new.grid ≡ g
    grid = l.swapped.grid ∙ between_grid

    count : length new.places ≡ length hold.places
    count = l.swapped.count ∙ l.dropped.count ∙ e.put.count ∙ e.swapped.count

    each : (b : ℕ) → bucket_at new.places b ≡ bucket_at hold.places b
    each b =
        l.swapped.places b
        ∙ ap (λ o. option_map (swapped_in l.between.grid b fresh gone) o)
        (l.dropped.places b ∙ ap (λ o. option_map (dropped_in mid.grid b p) o)
        (e.put.places b ∙ ap (λ o. option_map (put_in e.between.grid b p) o) (e.swapped.places b)))
        ∙ ap (λ h. option_map (swapped_in h b fresh gone) (option_map (dropped_in mid.grid b p)
        (option_map (put_in e.between.grid b p) (option_map (swapped_in g b gone fresh)
        (bucket_at hold.places b))))) between_grid
        ∙ ap (λ h. option_map (swapped_in g b fresh gone) (option_map (dropped_in h b p)
        (option_map (put_in e.between.grid b p) (option_map (swapped_in g b gone fresh)
        (bucket_at hold.places b))))) mid_grid
        ∙ ap (λ h. option_map (swapped_in g b fresh gone) (option_map (dropped_in g b p)
        (option_map (put_in h b p) (option_map (swapped_in g b gone fresh) (bucket_at hold.places b)))))
        e.swapped.grid
        ∙ by (bucket_at hold.places b) refl
      where
        by : (o : Option BucketContent) → bucket_at hold.places b ≡ o →
            option_map (swapped_in g b fresh gone) (option_map (dropped_in g b p)
            (option_map (put_in g b p) (option_map (swapped_in g b gone fresh) o))) ≡ o
        by None q = refl
        by (Some c) q =
            let sight = en.shown.sights b c q in
            let ascending = filtered_ascending (lies g b) s en.shown.ascending in
            let found = change_finds_cells hold s (complex (with_point p s)) gone fresh en.shown en.change en.gone_held
            in
            let here : cells_in hold.places b ≡ c.cells = ap (λ o. option_map_or (λ (x : BucketContent). x.cells) o [])
            q in
            ap (λ (x : BucketContent). Some x) (back_same g b p gone fresh c
            (swapped_back g b gone fresh c.cells
            (subst (λ l. IsStrictlySortedBy cell_cmp l) (sym sight.cells)
            (IsStrictlySortedBy-filter cell_cmp (touches g b) (complex s) (complex_is_sorted s en.shown.ascending)))
            (λ d i t. subst (IsIn d) here (found.there b d i t)) (λ d i t m. found.absent b d i t
            (subst (IsIn d) (sym here) m)))
            (λ t. with_without p c.points (subst IsAscending (sym sight.points) ascending)
            (λ i. en.new.absent (filtered_from (lies g b) s p (subst (IsIn p) sight.points i)).0)))

-- ---- a bucket that is claimed in between

-- a bucket that the point does not touch has the same of the set with it and without it
pub sight_outside : SightOutside
sight_outside g b s p c sight i n out = record {
  points = sight.points ∙ filter_with_else (lies g b) p s i.set.ascending
      here;
  cells = sight.cells ∙ sym cells;
}
  where
    here : lies g b p ≡ false
    here = false_if (lies g b p) (λ q. out (subst (IsTouched g s (Add p)) (eqb-true (bucket_of g p) b q)
        (own_touched g s (Add p))))

    there : List Cell
    there = complex (with_point p s)

    inserted : after s (Add p) ≡ with_point p s
    inserted = ap (λ (r : Reply). changed s p r) (inserts s p (false_if (is_among p s)
        (λ h. n.absent (among_from p s h))))

    none : (l : List Cell) → ((q : Cell) → IsIn q l → Goes (complex s) there q ⊎ Goes there (complex s) q) →
        NoneTouches g b l
    none l f q m = false_if (touches g b q) (λ k.
        let r = any_from (λ p. bucket_of g p == b) (points_of q) k in
        out (record {
          point = r.0;
          reached = changes_reached s (Add p) i n.key q
              (subst (λ (t : List ℕ). Goes (complex s) (complex t) q ⊎ Goes (complex t) (complex s) q) (sym inserted)
              (f q m)) r.0 r.1;
          number = sym (eqb-true (bucket_of g r.0) b r.2);
        }))

    gone : NoneTouches g b (without_cells there (complex s))
    gone = none (without_cells there (complex s)) (λ q m. let r = left_out (complex s) there q m in inl
        (record { before = r.0; after = r.1 }))

    fresh : NoneTouches g b (without_cells (complex s) there)
    fresh = none (without_cells (complex s) there) (λ q m. let r =
        left_out there (complex s) q m in inr (record { before = r.0; after = r.1 }))

    cells : filter (touches g b) there ≡ filter (touches g b) (complex s)
    cells =
        sym (cells_then g b s (with_point p s) (without_cells there (complex s)) (without_cells (complex s) there)
        i.set.ascending (ascending_with p s i.set.ascending)
        (record {
          went = left_out (complex s) there;
          all_gone = all_out (complex s) there;
          came =
              left_out there (complex s);
          all_fresh = all_out there (complex s);
        }))
        ∙ swapped_none g b (without_cells there (complex s)) (without_cells (complex s) there)
        (filter (touches g b) (complex s)) gone fresh

-- ---- two changes

-- two changes, one after the other, are one
pub changes_compose : ChangesCompose
changes_compose s t u gone fresh gone2 fresh2 a b = record {
  went = went;
  all_gone = all_gone;
  came = came;
  all_fresh =
      all_fresh;
}
  where
    both : (l m : List Cell) (c : Cell) → IsIn c (l ++ m) → IsIn c l ⊎ IsIn c m
    both l m c i = from_append c l m i

    went : (c : Cell) → IsIn c (without_cells fresh2 gone ++ without_cells fresh gone2) → IsIn c s × (IsIn c u → ⊥)
    went c i = elim (both (without_cells fresh2 gone) (without_cells fresh gone2) c i) [
      | inl j ↦ (let r = left_out gone fresh2 c j in let w = a.went c r.0 in (w.0, λ k. r.1 (b.all_fresh c k w.1)))
      | inr j ↦ (let r = left_out gone2 fresh c j in let w = b.went c r.0 in
          (elim (cell_in_or_not c s) [ inl k ↦ k | inr n ↦ absurd (r.1 (a.all_fresh c w.0 n)) ], w.1))
    ]

    all_gone : (c : Cell) → IsIn c s → (IsIn c u → ⊥) → IsIn c (without_cells fresh2 gone ++ without_cells fresh gone2)
    all_gone c i n = elim (cell_in_or_not c t) [
      | inl k ↦ in_right c (without_cells fresh2 gone) (without_cells fresh gone2)
          (all_out gone2 fresh c (b.all_gone c k n) (λ f. (a.came c f).1 i))
      | inr k ↦ in_left c (without_cells fresh2 gone) (without_cells fresh gone2)
          (all_out gone fresh2 c (a.all_gone c i k) (λ f. n (b.came c f).0))
    ]

    came : (c : Cell) → IsIn c (without_cells gone2 fresh ++ without_cells gone fresh2) → IsIn c u × (IsIn c s → ⊥)
    came c i = elim (both (without_cells gone2 fresh) (without_cells gone fresh2) c i) [
      | inl j ↦ (let r = left_out fresh gone2 c j in let w = a.came c r.0 in
          (elim (cell_in_or_not c u) [ inl k ↦ k | inr n ↦ absurd (r.1 (b.all_gone c w.0 n)) ], w.1))
      | inr j ↦ (let r = left_out fresh2 gone c j in let w = b.came c r.0 in (w.0, λ k. r.1 (a.all_gone c k w.1)))
    ]

    all_fresh : (c : Cell) → IsIn c u → (IsIn c s → ⊥) → IsIn c (without_cells gone2 fresh ++ without_cells gone fresh2)
    all_fresh c i n = elim (cell_in_or_not c t) [
      | inl k ↦ in_left c (without_cells gone2 fresh) (without_cells gone fresh2)
          (all_out fresh gone2 c (a.all_fresh c k n) (λ f. (b.went c f).1 i))
      | inr k ↦ in_right c (without_cells gone2 fresh) (without_cells gone fresh2)
          (all_out fresh2 gone c (b.all_fresh c i k) (λ f. n (a.went c f).0))
    ]

-- ---- the steps there and back

-- a change from one complex to another, with gone and fresh exchanged, is the change back
turned_change : (s t gone fresh : List Cell) → IsChange s t gone fresh → IsChange t s fresh gone
turned_change s t gone fresh c = record { went = c.came; all_gone = c.all_fresh; came = c.went; all_fresh = c.all_gone }

-- what was in hand is, with the point
pub held_entered : (hold new : InHand) (gone fresh : List Cell) (p b : ℕ) → IsEntered gone fresh p hold new →
    IsSome (bucket_at hold.places b) → IsSome (bucket_at new.places b)
held_entered hold new gone fresh p b e h = subst IsSome (sym (e.put.places b))
    (some_mapped _ (bucket_at e.between.places b) (subst IsSome (sym (e.swapped.places b))
    (some_mapped _ (bucket_at hold.places b) h)))

-- cells that are held are held once the point has entered
cells_held : (hold new : InHand) (gone fresh l : List Cell) (p : ℕ) → IsEntered gone fresh p hold new → AreHeld hold l →
    AreHeld new l
cells_held hold new gone fresh l p e h c i q j =
    subst (λ g. IsSome (bucket_at new.places (bucket_of g q))) (sym (e.put.grid ∙ e.swapped.grid))
    (held_entered hold new gone fresh p (bucket_of hold.grid q) e (h c i q j))

-- the point is not there before it comes
pub way_absent : (hold swap : InHand) (s : List ℕ) (gone fresh : List Cell) (p : ℕ) → Enters hold s gone fresh p →
    IsSwapped gone fresh hold swap → is_among p (points_at swap.places (bucket_of swap.grid p)) ≡ false
way_absent hold swap s gone fresh p en sw =
    ap (λ g. is_among p (points_at swap.places (bucket_of g p))) sw.grid
    ∙ ap (is_among p) (same (bucket_of hold.grid p))
    ∙ held_point hold s p en.shown en.held ∙ false_if (is_among p s) (λ t. en.new.absent (among_from p s t))
  where
    same : (b : ℕ) → points_at swap.places b ≡ points_at hold.places b
    same b = ap (λ o. option_map_or (λ (x : BucketContent). x.points) o []) (sw.places b) ∙ keeps
        (bucket_at hold.places b)
      where
        keeps : (o : Option BucketContent) → option_map_or (λ (x : BucketContent). x.points)
            (option_map (swapped_in hold.grid b gone fresh) o) [] ≡ option_map_or (λ x. x.points) o []
        keeps None = refl
        keeps (Some c) = refl

-- and is there then
pub way_present : (new : InHand) (gone fresh : List Cell) (p : ℕ) → WasEntered gone fresh p new →
    is_among p (points_at new.places (bucket_of new.grid p)) ≡ true
way_present new gone fresh p w =
    let t = with_point p w.set in
    held_point new t p (entered_shows w.before new w.set gone fresh p w.enters w.entered)
    (subst (λ g. IsSome (bucket_at new.places (bucket_of g p))) (sym (w.entered.put.grid ∙ w.entered.swapped.grid))
    (held_entered w.before new gone fresh p (bucket_of w.before.grid p) w.entered w.enters.held))
    ∙ among_true p t (in_with_new p w.set)

-- the exchanges find their cells
pub way_found : (hold : InHand) (s : List ℕ) (gone fresh : List Cell) (p : ℕ) → Enters hold s gone fresh p →
    FindsCells hold gone fresh
way_found hold s gone fresh p en = change_finds_cells hold s (complex (with_point p s)) gone fresh en.shown en.change
    en.gone_held

-- and so does the exchange back
pub back_found : (mid low : InHand) (gone fresh : List Cell) (p : ℕ) → WasEntered gone fresh p mid →
    IsDropped p mid low → FindsCells low fresh gone
back_found mid low gone fresh p w d =
    let f = change_finds_cells mid (with_point p w.set) (complex w.set) fresh gone
    (entered_shows w.before mid w.set gone fresh p w.enters w.entered)
    (turned_change (complex w.set) (complex (with_point p w.set)) gone fresh w.enters.change)
    (cells_held w.before mid gone fresh fresh p w.entered w.enters.fresh_held) in
    record {
      there = λ b c i t. subst (IsIn c) (sym (same b)) (f.there b c i (ap (λ g. touches g b c) (sym d.grid) ∙ t));
      absent = λ b c i t m. f.absent b c i (ap (λ g. touches g b c) (sym d.grid) ∙ t) (subst (IsIn c) (same b) m);
    }
  where
    same : (b : ℕ) → cells_in low.places b ≡ cells_in mid.places b
    same b = ap (λ o. option_map_or (λ (x : BucketContent). x.cells) o []) (d.places b) ∙ keeps (bucket_at mid.places b)
      where
        one : (c : BucketContent) → (dropped_in mid.grid b p c).cells ≡ c.cells
        one c = by (lies mid.grid b p)
          where
            by : (t : Bool) → (cond t (record c { points = without_point p c.points }) c).cells ≡ c.cells
            by true = refl
            by false = refl

        keeps : (o : Option BucketContent) → option_map_or (λ (x : BucketContent). x.cells)
            (option_map (dropped_in mid.grid b p) o) [] ≡ option_map_or (λ x. x.cells) o []
        keeps None = refl
        keeps (Some c) = one c
