-- A dig goes on: each turn explores found cells whose buckets are in hand, and there are not more of them than cells in
-- hand.
use Rattle.std.specs.Prelude.{◌≡◌, ℕ, ◌+◌, zero, suc, ◌<◌, List, [], ◌∷◌, ◌++◌, ◌==◌, length, take, slice_index_or}
use Rattle.std.specs.Prelude.{Option, Some, IsSome}
use Rattle.std.specs.List.{flat_map}
use Rattle.std.specs.Option.{option_map_or}
use Rattle.std.proofs.Common.{refl, sym, ◌∙◌, ap, subst, inl, inr, arith, append-nil, length-take}
use Rattle.std.proofs.lemmas.Bool.{eq-eqb}
use Rattle.std.proofs.lemmas.Grind.{flat_map-append}
use Rattle.std.proofs.lemmas.List.{take-append-le}
use Rattle.list_laws.proofs.Cited.{any_true, apart_place, at_most, at_place, distinct_take, filtered_true, flat_from}
use Rattle.list_laws.proofs.Cited.{in_flat, in_left, in_take, none_there, some_of, take_next}
use Rattle.point_order.specs.declared.cell.Cell.{Cell}
use Rattle.point_order.specs.declared.cell.Facet.{Facet}
use Rattle.point_order.specs.Complex.{complex}
use Rattle.point_order.specs.Coordinates.{IsKey}
use Rattle.point_order.specs.Facets.{facets_of, points_of}
use Rattle.point_order.specs.Sets.{IsIn}
use Rattle.del_laws.proofs.Cited.{listed_is_cell}
use Rattle.hole_laws.specs.Edits.{IsSolidSet, GoesFrom}
use Rattle.hole_laws.proofs.Cited.{one_gone_each}
use Rattle.bucket_grid.specs.Grids.{bucket_of}
use Rattle.cell_store.specs.Buckets.{BucketContent, InHand, bucket_at}
use Rattle.cell_store.specs.Missing.{ArePointsHeld, IsCellMissing}
use Rattle.cell_store.specs.Ready.{AreHeld}
use Rattle.cell_store.specs.Shares.{Shows}
use Rattle.cell_store.specs.Swaps.{touches}
use Rattle.cavity.specs.Digs.{Digging, CanDig, IsDigIn, IsDoneIn}
use Rattle.hole_laws.specs.Digs.{AreCrossed, facets_of_first, IsCrossedAt, AreUncrossed, Explores}
use Rattle.cavity.specs.Turns.{IsNeeded, NoneIsNeeded}
use Rattle.cell_store.proofs.Cited.{cells_more, has_point, solid_set}
use Rattle.cavity.proofs.Filling.{all_found}

-- ---- the cells in hand

-- the cells of all buckets in hand
abbrev pub cells_in_hand : List (Option BucketContent) → List Cell
cells_in_hand places = flat_map (λ o. option_map_or (λ c. c.cells) o []) places

-- a bucket by its number is one of the list
bucket_in : (places : List (Option BucketContent)) (b : ℕ) (c : BucketContent) → bucket_at places b ≡ Some c →
    IsIn (Some c) places
bucket_in [] b c e = (cc)
bucket_in (o ∷ places) zero c e = inl e
bucket_in (o ∷ places) (suc b) c e = inr (bucket_in places b c e)

-- a cell of the complex whose buckets are in hand is in one of them
cell_in_hand : (hold : InHand) (h : List ℕ) → Shows hold h → (q : Cell) → IsIn q (complex h) →
    ((e : ℕ) → IsIn e (points_of q) → IsSome (bucket_at hold.places (bucket_of hold.grid e))) →
    IsIn q (cells_in_hand hold.places)
cell_in_hand hold h st q m held =
    let e = has_point h q (listed_is_cell h q (solid_set hold h st).set.ascending m) in
    let b = bucket_of hold.grid e.0 in
    let k = some_of (bucket_at hold.places b) (held e.0 e.1) in
    let t = any_true (λ p. bucket_of hold.grid p == b) (points_of q) e.0 e.1 (eq-eqb b b refl) in
    let i = subst (λ (l : List Cell). IsIn q l) (sym (st.sights b k.0 k.1).cells)
    (filtered_true (touches hold.grid b) (complex h) q m t) in
    in_flat (λ o. option_map_or (λ c. c.cells) o []) hold.places (Some k.0) q (bucket_in hold.places b k.0 k.1) i

-- so explored cells are at most as many as the cells in hand
few_explored : (hold : InHand) (h : List ℕ) (d : Digging) → Shows hold h → IsDigIn h d → d.explored < length d.found →
    AreHeld hold (take (d.explored + 1) d.found) → d.explored < length (cells_in_hand hold.places)
few_explored hold h d st k less held =
    let most = at_most (take (d.explored + 1) d.found) (cells_in_hand hold.places)
    (distinct_take (d.explored + 1) d.found k.crossed.found_once)
    (λ q m. cell_in_hand hold h st q (k.crossed.goes q (in_take (d.explored + 1) d.found q m)).before (held q m)) in
    omega (arith, most, length-take (d.explored + 1) d.found)

-- ---- one more cell is explored

module _ (s : List ℕ) (i : IsSolidSet s) (d : Digging) (k : IsDigIn s d) (cell : Cell) (h : d.explored < length d.found)
    (at : cell ≡ slice_index_or d.found d.explored cell) where
  -- it was found
  pub next_at : IsCrossedAt s d.point (facets_of_first d.explored d.found) cell d.found d.rim
  next_at = record { new = k.new; so_far = k.crossed; among = at_place d.found d.explored cell cell h at }

  -- no rim facet of it was crossed
  pub next_new : AreUncrossed s d.point (facets_of_first d.explored d.found) (facets_of cell)
  next_new f m r c =
      let o = flat_from facets_of (take d.explored d.found) f c in
      let e = one_gone_each s d.point i k.new f r o.0 cell (k.crossed.goes o.0 (in_take d.explored d.found o.0 o.1))
      (k.crossed.goes cell next_at.among) o.2 m in
      apart_place d.found d.explored cell k.crossed.found_once h at
      (subst (λ (q : Cell). IsIn q (take d.explored d.found)) e o.1)

  -- with it, one more cell is explored
  one_further : (found' more : List Cell) → found' ≡ d.found ++ more →
      take (d.explored + 1) found' ≡ take d.explored d.found ++ cell ∷ []
  one_further found' more e = ap (take (d.explored + 1)) e ∙ take-append-le (d.explored + 1) d.found more (omega arith)
      ∙ take_next d.found d.explored cell h at

  -- the facets of the explored cells are those before and those of this one
  facets_further : (found' more : List Cell) → found' ≡ d.found ++ more →
      facets_of_first (d.explored + 1) found' ≡ facets_of_first d.explored d.found ++ facets_of cell
  facets_further found' more e =
      ap (flat_map facets_of) (one_further found' more e)
      ∙ flat_map-append facets_of (take d.explored d.found) (cell ∷ [])
      ∙ ap (λ l. flat_map facets_of (take d.explored d.found) ++ l) (append-nil (facets_of cell))

  -- and it is a dig still
  digs_on : (found' : List Cell) (rim' : List Facet) → ((more : List Cell) × (found' ≡ d.found ++ more)) →
      Explores s d.point cell d.found d.rim found' rim' →
      IsDigIn s (record { point = d.point; found = found'; explored = d.explored + 1; rim = rim' })
  digs_on found' rim' m x =
      let c = x (facets_of_first d.explored d.found) next_at next_new in
      record {
        new = k.new;
        first = k.first;
        begun = subst (λ (l : List Cell). IsIn k.first l) (sym m.1) (in_left k.first d.found m.0 k.begun);
        crossed = subst (λ (l : List Facet). AreCrossed s d.point l found' rim') (sym (facets_further found' m.0 m.1))
            c;
      }

-- ---- turns

-- a dig that begins
pub begins : (s : List ℕ) (p : ℕ) (cell : Cell) → IsKey p → CanDig s p cell →
    IsDigIn s (record { point = p; found = cell ∷ []; explored = 0; rim = [] })
begins s p cell key k = record {
  new = record { key = key; absent = k.absent };
  first = cell;
  begun = inl refl;
  crossed = record {
    goes = λ q m. elim m [ inl e ↦ subst (λ (c : Cell). GoesFrom s p c) e k.goes | inr none ↦ absurd none ];
    behind = λ f q m. absurd m;
    rim_is = λ f. (λ m. absurd m, λ r. absurd r.0);
    found_once = (λ m. m, tt);
    rim_once = tt;
  };
}

-- a dig that went on over a hold: its point is the same, it is a dig still, and the buckets of explored cells are in
-- hand
pub record GoesOn (hold : InHand) (old now : Digging) : Type 0 where
  pub point : now.point ≡ old.point
  pub digs : (h : List ℕ) → Shows hold h → IsDigIn h old → IsDigIn h now
  pub held : AreHeld hold (take now.explored now.found)

-- when it begins
pub goes_on_first : (hold : InHand) (d : Digging) → AreHeld hold (take d.explored d.found) → GoesOn hold d d
goes_on_first hold d held = record { point = refl; digs = λ h st k. k; held = held }

module _ (hold : InHand) (old d : Digging) (cell : Cell) (ps : List ℕ) (g : GoesOn hold old d)
    (less : d.explored < length d.found) (at : cell ≡ slice_index_or d.found d.explored cell) (e : ps ≡ points_of cell)
    (held : ArePointsHeld hold ps) where
  -- the buckets of the next cell's points are in hand too
  next_held : AreHeld hold (take (d.explored + 1) d.found)
  next_held = cells_more hold d.found d.explored cell ps less at e held g.held

  -- fewer were explored than there are cells in hand
  pub goes_below : (h : List ℕ) → Shows hold h → IsDigIn h old → d.explored < length (cells_in_hand hold.places)
  goes_below h st k = few_explored hold h d st (g.digs h st k) less next_held

  -- when the next cell was explored
  pub goes_further : (found' : List Cell) (rim' : List Facet) → ((more : List Cell) × (found' ≡ d.found ++ more)) →
      ((h : List ℕ) → Shows hold h → Explores h d.point cell d.found d.rim found' rim') →
      GoesOn hold old (record { point = d.point; found = found'; explored = d.explored + 1; rim = rim' })
  goes_further found' rim' m x = record {
    point = g.point;
    digs = λ h st k. digs_on h (solid_set hold h st) d (g.digs h st k) cell less at found' rim' m (x h st);
    held = subst (λ (l : List Cell). AreHeld hold l)
        (sym (ap (take (d.explored + 1)) m.1 ∙ take-append-le (d.explored + 1) d.found m.0 (omega arith))) next_held;
  }

-- a bucket that is missing for a found cell is needed
pub cell_needed : (hold : InHand) (s : List ℕ) (d : Digging) (found : List Cell) (b : ℕ) →
    ((q : Cell) → IsIn q found → IsIn q d.found) → IsDigIn s d → IsCellMissing hold found b →
    IsNeeded hold s d.point b
cell_needed hold s d found b inside k m = record {
  absent = m.missing.absent;
  cell = m.cell;
  goes = k.crossed.goes m.cell (inside m.cell m.among);
  point = m.missing.point;
  has = m.missing.among;
  number = m.missing.number;
}

-- where the dig is done and the buckets of its cells are in hand, none is needed
pub none_needed : (hold : InHand) (s : List ℕ) (d : Digging) → IsDoneIn s d → AreHeld hold d.found →
    NoneIsNeeded hold s d.point
none_needed hold s d k held b n =
    none_there (bucket_at hold.places b) n.absent
    (subst (λ (x : ℕ). IsSome (bucket_at hold.places x)) (sym n.number)
    (held n.cell (all_found s d k n.cell n.goes) n.point n.has))
