-- Wrapping the hole of a point that is taken.
use Rattle.std.specs.Prelude.{◌≡◌, ◌<◌, ℕ, true, not, ◌||◌, List, [], ◌∷◌, ◌++◌, ◌⊎◌, length}
use Rattle.std.specs.List.{list_all}
use Rattle.std.proofs.Common.{refl, sym, ◌∙◌, subst, inl, inr, arith}
use Rattle.std.proofs.lemmas.Bool.{cases_eq}
use Rattle.list_laws.specs.Lists.{AreDistinct}
use Rattle.list_laws.proofs.Cited.{all_from, all_true, among_true, both_true, distinct_push, first_true, from_append}
use Rattle.list_laws.proofs.Cited.{in_left, in_right, none_in, second_true}
use Rattle.point_order.specs.declared.cell.Cell.{Cell}
use Rattle.point_order.specs.declared.cell.Cell.TheVariants.{Full, Open}
use Rattle.point_order.specs.declared.cell.Facet.{Facet}
use Rattle.point_order.specs.declared.cell.Facet.TheVariants.{Three, Two}
use Rattle.point_order.specs.Complex.{complex, is_full}
use Rattle.point_order.specs.Conflicts.{CanJudge, is_in_conflict}
use Rattle.point_order.specs.Facets.{facets_of, points_of}
use Rattle.point_order.specs.Heights.{height}
use Rattle.point_order.specs.Orientation.{is_flat}
use Rattle.point_order.specs.Sets.{IsIn, is_among, with_point}
use Rattle.point_order.specs.Spheres.{is_outside}
use Rattle.point_order.proofs.Cited.{in_with, in_with_new, in_with_old}
use Rattle.del_laws.specs.Cells.{Vertex, point, On}
use Rattle.del_laws.specs.Vertices.{are_among, is_full_cell}
use Rattle.del_laws.proofs.Cited.{IsOver, cell_from, cell_is_listed, fits, listed_facets, listed_is_cell, over_facet}
use Rattle.del_laws.proofs.Cited.{test_is_listed, vertex_discrete}
use Rattle.hole_laws.specs.Edits.{IsSet, IsNew, IsLinkSet, GoesFrom, StaysFrom, IsRimOf}
use Rattle.hole_laws.specs.Lists.{cell_over}
use Rattle.hole_laws.proofs.Cited.{IsAgainst, IsFacetVertex, against_of, cells_after, fresh_have_point}
use Rattle.hole_laws.proofs.Cited.{goes_in_conflict, lists_of, mates_judge, more_set, old_lack_point, one_gone_each}
use Rattle.hole_laws.proofs.Cited.{over_facet as over_point, point_vertex, region_connected, within_new, without_from}
use Rattle.hole_laws.proofs.Cited.{one_of_two}
use Rattle.gift_wrap.specs.Near.{AreTaken}
use Rattle.gift_wrap.specs.Wraps.{IsApex, CanWrap, IsHole, IsOuter, IsFacetIn, AreSidesOf, IsOpen, AreMet, IsFacetOn}
use Rattle.gift_wrap.specs.Wraps.{LeaderIsApex, OuterIsRim}
use Rattle.gift_wrap.specs.declared.wrap.Side.{Side}
use Rattle.gift_wrap.proofs.Apexes.{cell_above, cell_point}

-- ---- the cell on a side

module _ (t : List ℕ) (i : IsSet t) where
  -- the one that leads makes a cell
  apex_is : (f : Facet) (a b c d : ℕ) → IsFacetOn f a b c → IsFacetIn (complex t) f → IsApex t t a b c d →
      is_full_cell t a b c d ≡ true
  apex_is f a b c d o m l =
      let r = cell_above t i.keys a b c over.last sides d l.inside l.above in
      subst (λ (x : ℕ). is_full_cell t a b c x ≡ true) (l.only r.0
      (cell_point t a b c r.0 r.2 r.0 (inr (inr (inr (inl refl))))) r.1 r.2) r.2
    where
      over : IsOver t m.cell f
      over = over_facet t i.keys m.cell f (listed_is_cell t m.cell i.ascending m.listed) m.has

      plain : On height t a o.low o.high over.last ⊎ On height t a o.high o.low over.last
      plain =
          cell_from t (point a) (point o.low) (point o.high) over.last
          (subst (λ (g : Facet). fits t g over.last ≡ true) o.is over.test)

      sides : On height t a b c over.last ⊎ On height t a c b over.last
      sides = elim o.one_of [
        | inl e ↦ subst (λ (x : ℕ). On height t a x c over.last ⊎ On height t a c x over.last) (sym e.0)
            (subst (λ (x : ℕ). On height t a o.low x over.last ⊎ On height t a x o.low over.last) (sym e.1) plain)
        | inr e ↦ subst (λ (x : ℕ). On height t a x c over.last ⊎ On height t a c x over.last) (sym e.0)
            (subst (λ (x : ℕ). On height t a o.high x over.last ⊎ On height t a x o.high over.last) (sym e.1)
            (elim plain [
              | inl p ↦ inr p
              | inr p ↦ inl p
            ]))
      ]

-- so it is listed
pub leader_is_apex : LeaderIsApex
leader_is_apex t f a b c d i o m l =
    test_is_listed t i.ascending i.keys (point a) (point b) (point c) (point d) (apex_is t i f a b c d o m l)

module _ (t : List ℕ) (v : ℕ) (k : CanWrap t v) where
  -- whether v takes it away can be judged
  pub apex_judged : (l : List ℕ) → IsIn (Full l) (complex t) → CanJudge (Full l) v v
  apex_judged l m = mates_judge t v k.solid.set k.new (Full l) v m tt

  -- and it does where they are in conflict
  pub apex_goes : (l : List ℕ) → IsIn (Full l) (complex t) → is_in_conflict (Full l) v v ≡ true → GoesFrom t v (Full l)
  apex_goes l m h = (goes_in_conflict t v k.solid k.new (Full l) v m tt).0 h

-- ---- the facets of the hole

-- of the star of v in a set, the cells with a triple against v are cells of the points near v, with v
module _ (s : List ℕ) (v : ℕ) (i : IsSet s) (m : IsIn v s) (t : List ℕ) (l : IsLinkSet s v t) where
  -- v is new for the points near
  near_new : IsNew t v
  near_new = within_new v s t i m l.inside

  -- with v they are of the set
  near_inside : (e : ℕ) → IsIn e (with_point v t) → IsIn e s
  near_inside e h = elim (in_with v e t h) [
    | inl q ↦ subst (λ (x : ℕ). IsIn x s) q m
    | inr r ↦ (without_from v s e (l.inside e r)).0
  ]

  -- the points of a cell at v are among them
  near_point : (c : Cell) → IsIn c (complex s) → IsIn v (points_of c) → (e : ℕ) → IsIn e (points_of c) →
      IsIn e (with_point v t)
  near_point c n h e j = elim (cases_eq e v) [
    | inl q ↦ subst (λ (x : ℕ). IsIn x (with_point v t)) (sym q) (in_with_new v t)
    | inr d ↦ in_with_old v e t (l.link e d (record { q = c; listed = n; has_p = h; has_e = j }))
  ]

  -- a Full cell
  near_full : (a b c d : ℕ) → is_full_cell s a b c d ≡ true →
      ((e : ℕ) → IsIn e (a ∷ b ∷ c ∷ d ∷ []) → IsIn e (with_point v t)) → is_full_cell (with_point v t) a b c d ≡ true
  near_full a b c d h p =
      let q = a ∷ b ∷ c ∷ d ∷ [] in
      let each = λ (e : ℕ). is_among e (a ∷ b ∷ c ∷ d ∷ []) || is_outside a b c d e in
      let full = second_true (are_among q s) (is_full s q) h in
      both_true (are_among q (with_point v t)) (is_full (with_point v t) q)
      (all_true (λ x. is_among x (with_point v t)) q (λ e j. among_true e (with_point v t) (p e j)))
      (both_true (not (is_flat a b c d)) (list_all each (with_point v t))
      (first_true (not (is_flat a b c d)) (list_all each s) full)
      (all_true each (with_point v t) (λ e j. all_from each s (second_true (not (is_flat a b c d)) (list_all each s)
      full) e (near_inside e j))))

  -- a cell at v with a triple against it
  near_cell : (c : Cell) (f : Facet) → IsIn c (complex s) → IsIn v (points_of c) → IsOuter c v f →
      IsIn c (complex (with_point v t))
  near_cell (Full q) f n h a =
      let r = listed_is_cell s (Full q) i.ascending n in
      let u = more_set t v l.solid.set near_new.key in
      cell_is_listed (with_point v t) (Full q) u.ascending (record {
        a = r.a;
        b = r.b;
        c = r.c;
        d = r.d;
        is = r.is;
        first = r.first;
        second = r.second;
        third = r.third;
        test = near_full r.a r.b r.c r.d r.test (λ e j. near_point (Full q) n h e
            (subst (λ (x : List ℕ). IsIn e x) (sym r.is) j));
      })
  near_cell (Open q) f n h a =
      let r = listed_is_cell s (Open q) i.ascending n in
      absurd (no_triple r.a r.b r.c (subst (λ (x : List ℕ). IsIn v x) r.is h)
      (subst (λ (x : List ℕ). IsIn f (facets_of (Open x))) r.is a.of_cell))
    where
      no_triple : (x y z : ℕ) → IsIn v (x ∷ y ∷ z ∷ []) → IsIn f (facets_of (Open (x ∷ y ∷ z ∷ []))) → ⊥
      no_triple x y z h j = elim j [
        | inl e ↦ two e
        | inr k ↦ elim k [
          | inl e ↦ two e
          | inr o ↦ elim o [
            | inl e ↦ two e
            | inr p ↦ elim p [ inl e ↦ a.apart (subst (λ (x : List ℕ). IsIn v x) (triples e) h) | inr none ↦ none ]
          ]
        ]
      ]
        where
          two : {p : List ℕ} → Two p ≡ f → ⊥
          two e = let g : Two _ ≡ Three a.triple = e ∙ a.is in (cc)

          triples : {p : List ℕ} → Three p ≡ f → p ≡ a.triple
          triples e = let g : Three _ ≡ Three a.triple = e ∙ a.is in (cc)

module _ (t : List ℕ) (v : ℕ) (k : CanWrap t v) where
  -- the points with v are a set
  with_set : IsSet (with_point v t)
  with_set = more_set t v k.solid.set k.new.key

  module _ (f : Facet) (triple : List ℕ) (is : f ≡ Three triple) (apart : ¬ (IsIn v triple)) where
    -- a cell with v on a triple against it is that of v and the triple
    over_triple : (c : Cell) → IsIn c (complex (with_point v t)) → IsIn v (points_of c) → IsIn f (facets_of c) →
        c ≡ cell_over f v
    over_triple c m h j =
        let o = (lists_of (with_point v t) with_set).ordered c m in
        let a = against_of c o f j in
        over_point c o v (point_vertex c v h) f (elim (vertex_discrete (point v) a.z) [
          | yes e ↦ subst (λ (z : Vertex). IsAgainst c z f) (sym e) a.against
          | no n ↦ absurd (apart (subst (λ (g : Facet). IsFacetVertex g (point v)) is
              (a.against.rest (point v) (point_vertex c v h) n)))
        ])

    -- and the triple is a facet of the hole
    rim_of_star : (c : Cell) → IsIn c (complex (with_point v t)) → IsIn v (points_of c) → IsIn f (facets_of c) →
        IsRimOf t v f
    rim_of_star c m h j =
        let o = listed_facets (with_point v t) c f with_set.ascending with_set.keys m j in
        let lacks : ¬ (IsIn v (points_of o.other)) =
        λ p. o.differs (over_triple o.other o.listed p o.has ∙ sym (over_triple c m h j)) in
        let stays : StaysFrom t v o.other = elim ((cells_after t v k.solid k.new o.other).0 o.listed) [
          | inl x ↦ x
          | inr x ↦ absurd (lacks ((fresh_have_point t v k.solid k.new o.other o.listed).0 x))
        ] in
        let g = listed_facets t o.other f k.solid.set.ascending k.solid.set.keys stays.before o.has in
        record {
          gone = g.other;
          goes = record {
            before = g.listed;
            after = λ p. elim (o.only g.other p g.has) [
              | inl e ↦ old_lack_point t v k.solid k.new g.other g.listed
                  (subst (λ (x : Cell). IsIn v (points_of x)) (sym e) h)
              | inr e ↦ g.differs e
            ];
          };
          of_gone = g.has;
          kept = o.other;
          stays = stays;
          of_kept = o.has;
        }

-- the triples against v of the cells at it bound the hole
pub outer_is_rim : OuterIsRim
outer_is_rim s v t c f i m l n h a =
    rim_of_star t v (record { solid = l.solid; new = within_new v s t i m l.inside }) f a.triple a.is a.apart c
    (near_cell s v i m t l c f n h a) h a.of_cell

-- ---- the wrap

-- every cell with the facet that v takes away is found
abbrev IsSettled : List ℕ → ℕ → List Cell → Facet → Type 0
IsSettled t v found f = (q : Cell) → GoesFrom t v q → IsIn f (facets_of q) → IsIn q found

-- Some cells that v takes away are found, each once. Each facet of one of them is settled, or a side of it is open; and
-- each open side is that of a facet of the hole, or of a cell that was found.
pub record IsWrapped (t : List ℕ) (v : ℕ) (found : List Cell) (sides : List Side) : Type 0 where
  pub goes : (c : Cell) → IsIn c found → GoesFrom t v c
  pub settled : (c : Cell) (f : Facet) → IsIn c found → IsIn f (facets_of c) → IsSettled t v found f ⊎ IsOpen f sides
  pub opened : (s : Side) → IsIn s sides → IsRimOf t v s.facet ⊎ IsFacetIn found s.facet
  pub once : AreDistinct found

-- the points near the hole can be wrapped
pub hole_wraps : (t : List ℕ) (v : ℕ) (star : List Cell) → IsHole t v star → CanWrap t v
hole_wraps t v star h = record { solid = h.link.solid; new = within_new v h.set t h.is_set h.has_v h.link.inside }

-- at first the facets of the hole are open
pub wrap_begun : (t : List ℕ) (v : ℕ) (star : List Cell) (sides : List Side) → IsHole t v star →
    AreSidesOf star v sides → IsWrapped t v [] sides
wrap_begun t v star sides h k = record {
  goes = λ c m. absurd m;
  settled = λ c f m n. absurd m;
  opened = λ s m. (
      let r = k s m in
      let c = (h.star_is r.0).0 r.1 in
      inl (outer_is_rim h.set v t r.0 s.facet h.is_set h.has_v h.link c.0 c.1 r.2));
  once = tt;
}

-- a list with a member, and one without
some_member : {X : Type 0} (l : List X) → 0 < length l → (x : X) × IsIn x l
some_member [] h = absurd (omega arith)
some_member (x ∷ l) h = (x, inl refl)

module _ (t : List ℕ) (v : ℕ) (k : CanWrap t v) (found : List Cell) (sides : List Side) (w : IsWrapped t v found sides)
  where
    -- an open side is that of a facet of the complex
    pub open_facet : (s : Side) → IsIn s sides → IsFacetIn (complex t) s.facet
    open_facet s m = elim (w.opened s m) [
      | inl r ↦ record { cell = r.gone; listed = r.goes.before; has = r.of_gone }
      | inr r ↦ record { cell = r.cell; listed = (w.goes r.cell r.listed).before; has = r.has }
    ]

    -- when no side is open, all cells that v takes away are found
    pub wrap_done : 0 < length found → length sides ≡ 0 → AreTaken t v found
    wrap_done h e = (let a = some_member found h in record {
      goes = λ c. (
        w.goes c,
        λ g. region_connected t v k.solid k.new found (record {
          goes = w.goes;
          across = λ q r f n j i l. elim (w.settled q f n i) [
            | inl s ↦ s r j l
            | inr o ↦ absurd (none_in sides o.side e o.among)
          ];
        }) a.0 a.1 c g,
      );
      once = w.once;
    })

    module _ (c : Cell) (goes : GoesFrom t v c) (new : ¬ (IsIn c found)) (next : List Side)
        (met : AreMet (facets_of c) sides next) where
      -- the cells with one more
      abbrev more : List Cell
      more = found ++ c ∷ []

      -- those found before, and it
      before : (q : Cell) → IsIn q found → IsIn q more
      before q m = in_left q found (c ∷ []) m

      -- this cell is one of them
      here : IsIn c more
      here = in_right c found (c ∷ []) (inl refl)

      -- they go
      all_go : (q : Cell) → IsIn q more → GoesFrom t v q
      all_go q m = elim (from_append q found (c ∷ []) m) [
        | inl n ↦ w.goes q n
        | inr n ↦ elim n [ inl e ↦ subst (λ (x : Cell). GoesFrom t v x) e goes | inr none ↦ absurd none ]
      ]

      -- a facet of it and of one found before is settled
      by_two : (q : Cell) (f : Facet) → IsIn q found → IsIn f (facets_of q) → IsIn f (facets_of c) →
          IsSettled t v more f
      by_two q f m i j r g n =
          elim (one_of_two t k.solid.set f c q r goes.before j (w.goes q m).before i
          (λ e. new (subst (λ (x : Cell). IsIn x found) e m)) g.before n) [
            | inl e ↦ subst (λ (x : Cell). IsIn x more) e here
            | inr e ↦ subst (λ (x : Cell). IsIn x more) e (before q m)
          ]

      -- so is a facet of the hole
      by_rim : (f : Facet) → IsRimOf t v f → IsIn f (facets_of c) → IsSettled t v more f
      by_rim f r j q g n = subst (λ (x : Cell). IsIn x more) (one_gone_each t v k.solid k.new f r c q goes g j n) here

      -- one that was open
      by_open : (f : Facet) → IsOpen f sides → IsIn f (facets_of c) → IsSettled t v more f
      by_open f o j = elim (w.opened o.side o.among) [
        | inl r ↦ by_rim f (subst (λ (x : Facet). IsRimOf t v x) o.is r) j
        | inr r ↦ by_two r.cell f r.listed (subst (λ (x : Facet). IsIn x (facets_of r.cell)) o.is r.has) j
      ]

      -- each facet of a cell is settled or open
      settled : (q : Cell) (f : Facet) → IsIn q more → IsIn f (facets_of q) → IsSettled t v more f ⊎ IsOpen f next
      settled q f m i = elim (from_append q found (c ∷ []) m) [
        | inl n ↦ elim (w.settled q f n i) [
          | inl s ↦ inl (λ r g j. before r (s r g j))
          | inr o ↦ elim (met.went o.side o.among) [
            | inl p ↦ inr (record { side = o.side; among = p; is = o.is })
            | inr p ↦ inl (by_two q f n i (subst (λ (x : Facet). IsIn x (facets_of c)) o.is p))
          ]
        ]
        | inr n ↦ elim n [
          | inl e ↦ (
              let j = subst (λ (x : Cell). IsIn f (facets_of x)) (sym e) i in
              elim (met.each f j) [ inl o ↦ inl (by_open f o j) | inr o ↦ inr o ])
          | inr none ↦ absurd none
        ]
      ]

      -- and each open side is that of a facet of the hole or of a cell
      still_open : (s : Side) → IsIn s next → IsRimOf t v s.facet ⊎ IsFacetIn more s.facet
      still_open s m = elim (met.came s m) [
        | inl n ↦ elim (w.opened s n) [
          | inl r ↦ inl r
          | inr r ↦ inr (record { cell = r.cell; listed = before r.cell r.listed; has = r.has })
        ]
        | inr n ↦ inr (record { cell = c; listed = here; has = n })
      ]

      -- one more cell is found
      pub wrap_more : IsWrapped t v more next
      wrap_more =
          record { goes = all_go; settled = settled; opened = still_open; once = distinct_push found c w.once new }
