-- What a verdict on lists says of them.
use Rattle.std.specs.Prelude.{◌≡◌, refl, ℕ, Bool, true, false, not, ◌||◌, List, [], ◌∷◌, Option, None, Some, Result, Ok}
use Rattle.std.specs.Prelude.{◌==◌, length, slice_index_or}
use Rattle.std.specs.declared.alloc.AllocError.{AllocError}
use Rattle.std.specs.List.{list_all}
use Rattle.std.proofs.Common.{inl, inr, ap, sym, subst, ◌∙◌}
use Rattle.list_laws.proofs.Cited.{all_from, all_true, both_true, not_both, not_from, not_true, second_true}
use Rattle.list_laws.proofs.Cited.{first_true as first_of_two}
use Rattle.point_order.specs.declared.cell.Cell.{Cell}
use Rattle.point_order.specs.declared.cell.Cell.TheVariants.{Full, Open}
use Rattle.point_order.specs.declared.cell.Facet.{Facet}
use Rattle.point_order.specs.declared.cell.Facet.TheVariants.{Three, Two}
use Rattle.point_order.specs.Orientation.{is_flat}
use Rattle.point_order.specs.Spheres.{is_outside}
use Rattle.point_order.specs.Sets.{IsIn, IsAscending, is_among}
use Rattle.point_order.specs.Complex.{complex, is_full, is_open}
use Rattle.point_order.specs.Solid.{is_solid}
use Rattle.point_order.specs.Facets.{facets_of}
use Rattle.del_laws.specs.Keys.{AreKeys}
use Rattle.del_laws.specs.Vertices.{are_among, is_full_cell}
use Rattle.del_laws.specs.Listed.{IsListed, passes_definition}
use Rattle.del_laws.specs.ListedParts.{HasSecondCell, IsClosedList}
use Rattle.del_laws.proofs.Cited.{closed_list_is_complex, complex_is_closed_list, definition_is_cell, listed_facets}
use Rattle.mesh_check.specs.declared.flaw.Flaw.{Flaw}
use Rattle.mesh_check.specs.declared.flaw.Flaw.TheVariants.{Empty, FlatCell, Sides, Inside, OpenFacet}
use Rattle.mesh_check.specs.declared.flaw.Verdict.{Verdict}
use Rattle.mesh_check.specs.declared.flaw.Verdict.TheVariants.{Good, Bad}
use Rattle.mesh_check.specs.Flaws.{IsFacet, IsInTwo, IsVerdict, are_apart, first_flaw, is_flat_cell, is_inside}
use Rattle.mesh_check.specs.Flaws.{as_cells, IsComplex}
use Rattle.mesh_check.specs.Laws.{AreCells, IsFlaw, AreInComplex, AreSound, FlawIsTrue, FlawShows, GoodIsComplex}
use Rattle.mesh_check.proofs.Flaws.{IsSound, first_of_cell, first_true, none_flawed, sound}
use Rattle.mesh_check.proofs.Triples.{open_is_sound, sound_is_open, true_not}
use Rattle.mesh_check.proofs.Turned.{flat_front, flat_second, flat_third}

-- the law FlawIsTrue
pub flaw_is_true : FlawIsTrue
flaw_is_true s l Empty v = v
flaw_is_true s l (FlatCell c) v = first_true s l l (FlatCell c) (λ c m. m) v
flaw_is_true s l (Sides t e f) v = first_true s l l (Sides t e f) (λ c m. m) v
flaw_is_true s l (Inside c p) v = first_true s l l (Inside c p) (λ c m. m) v
flaw_is_true s l (OpenFacet f) v = (v.1.is, v.1.open_facet)

-- ---- the complex has no flaw

-- four points that are a cell
full_sound : (s : List ℕ) (a b c d : ℕ) → is_full_cell s a b c d ≡ true → IsSound s (Full (a ∷ b ∷ c ∷ d ∷ []))
full_sound s a b c d t =
    let each = list_all (λ e. is_among e (a ∷ b ∷ c ∷ d ∷ []) || is_outside a b c d e) s in
    let u = second_true (are_among (a ∷ b ∷ c ∷ d ∷ []) s) (is_full s (a ∷ b ∷ c ∷ d ∷ [])) t in
    record {
      upright = not_from (is_flat a b c d) (first_of_two (not (is_flat a b c d)) each u);
      together = λ e f me mf. refl;
      outside = λ p m. true_not (is_among p (a ∷ b ∷ c ∷ d ∷ []) || is_outside a b c d p)
          (all_from (λ e. is_among e (a ∷ b ∷ c ∷ d ∷ []) || is_outside a b c d e) s
          (second_true (not (is_flat a b c d)) each u) p m);
    }

-- a listed cell
listed_sound : (s : List ℕ) (c : Cell) → IsListed s c → IsSound s c
listed_sound s (Full q) l = subst (λ (v : List ℕ). IsSound s (Full v)) (sym l.is) (full_sound s l.a l.b l.c l.d l.test)
listed_sound s (Open t) l =
    subst (λ (v : List ℕ). IsSound s (Open v)) (sym l.is)
    (open_is_sound s l.a l.b l.c (second_true (are_among (l.a ∷ l.b ∷ l.c ∷ []) s) (is_open s (l.a ∷ l.b ∷ l.c ∷ []))
    l.test))

-- each facet is one of two cells
facet_in_two : (s : List ℕ) (f : Facet) → IsAscending s → AreKeys s → IsFacet (complex s) f → IsInTwo (complex s) f
facet_in_two s f a k i =
    let n = listed_facets s i.cell f a k i.listed i.has in
    record {
      first = i.cell;
      second = n.other;
      differ = λ e. n.differs (sym e);
      first_listed = i.listed;
      second_listed = n.listed;
      first_has = i.has;
      second_has = n.has;
      only = λ c m h. n.only c m h;
    }

-- no flaw is true of it
none_true : (s : List ℕ) (flaw : Flaw) → IsAscending s → AreKeys s → is_solid s ≡ true → IsFlaw s (complex s) flaw → ⊥
none_true s Empty a k i v = subst (λ (l : List Cell). IsIn (complex_is_closed_list s a k i).some l) v
    (complex_is_closed_list s a k i).has_some
none_true s (FlatCell c) a k i v = not_both (is_flat_cell c) v.1
    (listed_sound s c ((complex_is_closed_list s a k i).empty c v.0)).upright
none_true s (Sides t e f) a k i v = not_both (are_apart (Open t) e f) v.3
    ((listed_sound s (Open t) ((complex_is_closed_list s a k i).empty (Open t) v.0)).together e f v.1 v.2)
none_true s (Inside c p) a k i v = not_both (is_inside s c p) v.2
    ((listed_sound s c ((complex_is_closed_list s a k i).empty c v.0)).outside p v.1)
none_true s (OpenFacet f) a k i v = v.1 (facet_in_two s f a k v.0)

-- the law FlawShows
pub flaw_shows : FlawShows
flaw_shows s l flaw a k v c = none_true s flaw a k c.0 (subst (λ (m : List Cell). IsFlaw s m flaw) c.1 v)

-- so the search for one finds none
none_first : (s : List ℕ) → IsAscending s → AreKeys s → is_solid s ≡ true → first_flaw s (complex s) ≡ None
none_first s a k i = go (first_flaw s (complex s)) refl
  where
    -- whatever it finds
    go : (o : Option Flaw) → first_flaw s (complex s) ≡ o → first_flaw s (complex s) ≡ None
    go None e = e
    go (Some flaw) e = absurd (none_true s flaw a k i (first_true s (complex s) (complex s) flaw (λ c m. m) e))

-- the verdict on the complex is good
complex_is_good : (s : List ℕ) → IsAscending s → AreKeys s → is_solid s ≡ true → IsVerdict s (complex s) Good
complex_is_good s a k i = (λ e. none_true s Empty a k i e, none_first s a k i, λ f t. facet_in_two s f a k t)

-- ---- lists without a flaw

-- four points without a flaw pass the definition
full_passes : (s q : List ℕ) → IsSound s (Full q) → is_full s q ≡ true
full_passes s [] r = absurd (cc r.upright)
full_passes s (a ∷ []) r = absurd (cc r.upright)
full_passes s (a ∷ b ∷ []) r = absurd (cc r.upright)
full_passes s (a ∷ b ∷ c ∷ []) r = absurd (cc r.upright)
full_passes s (a ∷ b ∷ c ∷ d ∷ []) r =
    both_true (not (is_flat a b c d)) (list_all (λ e. is_among e (a ∷ b ∷ c ∷ d ∷ []) || is_outside a b c d e) s)
    (not_true (is_flat a b c d) r.upright)
    (all_true (λ e. is_among e (a ∷ b ∷ c ∷ d ∷ []) || is_outside a b c d e) s
    (λ e m. not_false (is_among e (a ∷ b ∷ c ∷ d ∷ []) || is_outside a b c d e) (r.outside e m)))
  where
    -- what is not false is true
    not_false : (p : Bool) → not p ≡ false → p ≡ true
    not_false true e = refl
    not_false false e = cc
full_passes s (a ∷ b ∷ c ∷ d ∷ e ∷ q) r = absurd (cc r.upright)

-- the other of the two cells on a facet
second_of : (l : List Cell) (c : Cell) (f : Facet) → IsIn c l → IsIn f (facets_of c) → IsInTwo l f → HasSecondCell l c f
second_of l c f m h t = elim (t.only c m h) [
  | inl e ↦ record {
    second = t.second;
    differs = λ g. t.differ (sym e ∙ sym g);
    listed = t.second_listed;
    has =
        t.second_has;
  }
  | inr e ↦ record { second = t.first; differs = λ g. t.differ (g ∙ e); listed = t.first_listed; has = t.first_has }
]

-- the point lies in the plane of the three
abbrev flat_with : List ℕ → ℕ → Bool
flat_with (a ∷ b ∷ c ∷ []) x = is_flat a b c x
flat_with _ x = true

-- a point of s off the plane of three
record HasOff (s t : List ℕ) : Type 0 where
  point : ℕ
  inside : IsIn point s
  off : flat_with t point ≡ false

-- one list of three
same_three : (t u : List ℕ) → Three t ≡ Three u → t ≡ u
same_three t u e = cc

-- a pair is no triple
no_triple : (p t : List ℕ) → Two p ≡ Three t → ⊥
no_triple p t e = cc

-- another cell with the triple has such a point
off_full : (s q t : List ℕ) → IsSound s (Full q) → ((p : ℕ) → IsIn p q → IsIn p s) →
    IsIn (Three t) (facets_of (Full q)) → HasOff s t
off_full s [] t r f m = absurd m
off_full s (a ∷ []) t r f m = absurd m
off_full s (a ∷ b ∷ []) t r f m = absurd m
off_full s (a ∷ b ∷ c ∷ []) t r f m = absurd m
off_full s (a ∷ b ∷ c ∷ d ∷ []) t r f m = elim m [
  | inl e ↦ at (same_three (b ∷ c ∷ d ∷ []) t e)
      (record { point = a; inside = f a (inl refl); off = flat_front a b c d ∙ r.upright })
  | inr u ↦ elim u [
    | inl e ↦ at (same_three (a ∷ c ∷ d ∷ []) t e)
        (record { point = b; inside = f b (inr (inl refl)); off = flat_second a b c d ∙ r.upright })
    | inr v ↦ elim v [
      | inl e ↦ at (same_three (a ∷ b ∷ d ∷ []) t e)
          (record { point = c; inside = f c (inr (inr (inl refl))); off = flat_third a b c d ∙ r.upright })
      | inr w ↦ elim w [
        | inl e ↦ at (same_three (a ∷ b ∷ c ∷ []) t e)
            (record { point = d; inside = f d (inr (inr (inr (inl refl)))); off = r.upright })
        | inr none ↦ absurd none
      ]
    ]
  ]
]
  where
    -- for the triple as it is written
    at : {u : List ℕ} → u ≡ t → HasOff s u → HasOff s t
    at e h = subst (λ (v : List ℕ). HasOff s v) e h
off_full s (a ∷ b ∷ c ∷ d ∷ e ∷ q) t r f m = absurd m

-- an Open cell with the triple is that of the triple
open_with : (u t : List ℕ) → IsIn (Three t) (facets_of (Open u)) → Open u ≡ Open t
open_with [] t m = absurd m
open_with (a ∷ []) t m = absurd m
open_with (a ∷ b ∷ []) t m = absurd m
open_with (a ∷ b ∷ c ∷ []) t m = elim m [
  | inl e ↦ absurd (no_triple (b ∷ c ∷ []) t e)
  | inr r ↦ elim r [
    | inl e ↦ absurd (no_triple (a ∷ c ∷ []) t e)
    | inr v ↦ elim v [
      | inl e ↦ absurd (no_triple (a ∷ b ∷ []) t e)
      | inr w ↦ elim w [ inl e ↦ ap Open (same_three (a ∷ b ∷ c ∷ []) t e) | inr none ↦ absurd none ]
    ]
  ]
]
open_with (a ∷ b ∷ c ∷ d ∷ u) t m = absurd m

module _ (s : List ℕ) (l : List Cell) (g : AreCells s l) (none : first_flaw s l ≡ None) (two : (f : Facet) →
    IsFacet l f → IsInTwo l f) where
  -- each cell is sound
  each_sound : (c : Cell) → IsIn c l → IsSound s c
  each_sound c m = sound s c (none_flawed s l none c m)

  -- each facet has a second cell
  each_second : (c : Cell) (f : Facet) → IsIn c l → IsIn f (facets_of c) → HasSecondCell l c f
  each_second c f m h = second_of l c f m h (two f (record { cell = c; listed = m; has = h }))

  -- the other cell on the triple of an Open cell has a point off it
  off_by : (t : List ℕ) (d : Cell) → ¬ (d ≡ Open t) → IsIn d l → IsIn (Three t) (facets_of d) → HasOff s t
  off_by t (Full q) n m h = off_full s q t (each_sound (Full q) m) (g.inside (Full q) m) h
  off_by t (Open u) n m h = absurd (n (open_with u t h))

  -- three points pass the definition
  open_passes : (t : List ℕ) → IsIn (Open t) l → is_open s t ≡ true
  open_passes [] m = absurd (cc (each_sound (Open []) m).upright)
  open_passes (a ∷ []) m = absurd (cc (each_sound (Open (a ∷ [])) m).upright)
  open_passes (a ∷ b ∷ []) m = absurd (cc (each_sound (Open (a ∷ b ∷ [])) m).upright)
  open_passes (a ∷ b ∷ c ∷ []) m =
      let n = each_second (Open (a ∷ b ∷ c ∷ [])) (Three (a ∷ b ∷ c ∷ [])) m (inr (inr (inr (inl refl)))) in
      let h = off_by (a ∷ b ∷ c ∷ []) n.second n.differs n.listed n.has in
      sound_is_open s a b c h.point (each_sound (Open (a ∷ b ∷ c ∷ [])) m) h.inside h.off
  open_passes (a ∷ b ∷ c ∷ d ∷ t) m = absurd (cc (each_sound (Open (a ∷ b ∷ c ∷ d ∷ t)) m).upright)

  -- each cell passes
  each_passes : (c : Cell) → IsIn c l → passes_definition s c ≡ true
  each_passes (Full q) m = full_passes s q (each_sound (Full q) m)
  each_passes (Open t) m = open_passes t m

  -- so they are a closed list
  good_is_closed : (c : Cell) → IsIn c l → IsClosedList s l
  good_is_closed c m = record {
    sorted = g.sorted;
    some = c;
    has_some = m;
    empty = λ d i. definition_is_cell s d (g.ascending d i) (g.inside d i) (each_passes d i);
    closed = λ d f i h. each_second d f i h;
  }

-- marked cells of the complex have no flaw
pub known_sound : (s : List ℕ) (kind : List ℕ → Cell) (l : List (List ℕ)) (marks : List Bool) → IsAscending s →
    AreKeys s → AreInComplex s kind l marks → AreSound s kind l marks
known_sound s kind l marks a k of i e =
    none_flawed s (complex s) (none_first s a k (of i e).0) (kind (slice_index_or l i [])) (of i e).1

-- a list that is not empty has a member
first_member : {X : Type 0} (l : List X) → ¬ (l ≡ []) → (c : X) × IsIn c l
first_member [] n = absurd (n refl)
first_member (c ∷ l) n = (c, inl refl)

-- the law GoodIsComplex
pub good_is_complex : GoodIsComplex
good_is_complex s l a k g = (
  λ v. (
      let c = first_member l v.0 in
      let r = closed_list_is_complex s l a k (good_is_closed s l g v.1 v.2 c.0 c.1) in
      (r.1, r.0)),
  λ c. subst (λ (m : List Cell). IsVerdict s m Good) (sym c.1) (complex_is_good s a k c.0),
)

-- ---- what the check answers

-- the verdict by the first flaw of a cell
pub by_cell : (s : List ℕ) (l : List Cell) (flaw : Flaw) → first_flaw s l ≡ Some flaw → IsVerdict s l (Bad flaw)
by_cell s l Empty e = absurd (first_of_cell s l Empty e)
by_cell s l (FlatCell c) e = e
by_cell s l (Sides t p q) e = e
by_cell s l (Inside c p) e = e
by_cell s l (OpenFacet f) e = absurd (first_of_cell s l (OpenFacet f) e)

-- two answers with a flaw are of one
same_flaw : (r flaw : Flaw) → ◌≡◌ {A = Result Verdict AllocError} (Ok (Bad r)) (Ok (Bad flaw)) → r ≡ flaw
same_flaw r flaw e = cc

-- what a flaw says
pub bad_says : (s : List ℕ) (l : List Cell) (r flaw : Flaw) → IsAscending s → AreKeys s → IsVerdict s l (Bad r) →
    ◌≡◌ {A = Result Verdict AllocError} (Ok (Bad r)) (Ok (Bad flaw)) → IsFlaw s l flaw × (IsComplex s l → ⊥)
bad_says s l r flaw a k v e =
    let f = subst (IsFlaw s l) (same_flaw r flaw e) (flaw_is_true s l r v) in
    (f, flaw_shows s l flaw a k f)

-- cells make a list that is not empty
pub not_empty : (cells hull : List (List ℕ)) → (length cells == 0) ≡ false → as_cells cells hull ≡ [] → ⊥
not_empty [] hull e f = cc
not_empty (q ∷ cells) hull e f = cc
