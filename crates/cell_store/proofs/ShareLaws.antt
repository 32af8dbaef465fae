-- What the buckets of a hold have of the set that it shows, and of its complex.
use Rattle.std.specs.Prelude.{◌≡◌, ℕ, ◌+◌, ◌<◌, Bool, true, false, ◌==◌, List, [], ◌∷◌, Option, Some, is_some, length}
use Rattle.std.specs.Prelude.{slice_index_or}
use Rattle.std.specs.List.{filter}
use Rattle.std.specs.Option.{option_map_or}
use Rattle.std.proofs.Common.{refl, sym, ◌∙◌, ap, subst, inl, inr, take, add-one}
use Rattle.list_laws.proofs.Cited.{among_from, any_true, eq_same, filter_twice, filtered_from, filtered_true, in_more}
use Rattle.list_laws.proofs.Cited.{none_is, some_is}
use Rattle.point_order.specs.declared.cell.Cell.{Cell}
use Rattle.point_order.specs.declared.cell.Cell.TheVariants.{Full, Open}
use Rattle.point_order.specs.declared.cell.Facet.{Facet}
use Rattle.point_order.specs.declared.cell.Facet.TheVariants.{Three, Two}
use Rattle.point_order.specs.Complex.{complex}
use Rattle.point_order.specs.Facets.{points_of, facets_of, full_facets, open_facets}
use Rattle.point_order.specs.Sets.{IsIn, is_among}
use Rattle.edit_history.specs.declared.history.Entry.{Entry}
use Rattle.edit_history.specs.Histories.{replay}
use Rattle.edit_history.proofs.Cited.{leaves_set}
use Rattle.del_laws.proofs.Cited.{listed_facets}
use Rattle.hole_laws.specs.Edits.{IsSolidSet}
use Rattle.bucket_grid.specs.Grids.{bucket_of}
use Rattle.cell_store.specs.Buckets.{BucketContent, InHand, bucket_at, cells_in}
use Rattle.cell_store.specs.Swaps.{touches}
use Rattle.hole_laws.specs.Others.{IsOtherOf, HaveNoOther}
use Rattle.cell_store.specs.Shares.{Stands, IsSound, StandsShows, ShareIsOne, Shows, ShowsWith, NoneInHand, IsInHandFor}
use Rattle.cell_store.specs.Shares.{IsAcross, points_on}

-- ---- points and buckets

-- a cell with a point has a finite vertex in the bucket of the point
pub touched : (g p b : ℕ) (c : Cell) → b ≡ bucket_of g p → IsIn p (points_of c) → touches g b c ≡ true
touched g p b c e i = any_true (λ q. bucket_of g q == b) (points_of c) p i (let s : bucket_of g p ≡ b = sym e in
    rw s (eq_same b))

-- ---- shares and shown sets

-- a bucket's share of a history, at one place, is one content
pub share_is_one : ShareIsOne
share_is_one g b h c s e = λ i. record { points = s.points i; cells = s.cells i; entries = s.entries i; place = e i }

-- a hold that stands for a history shows the set that it leaves
pub stands_shows : StandsShows
stands_shows hold h st = record {
  ascending = leaves_set h;
  keys = st.keys;
  solid = st.solid;
  sights = λ b c e. record { points = (st.shares b c e).points; cells = (st.shares b c e).cells };
}

-- a set that a hold shows is solid
pub solid_set : (hold : InHand) (s : List ℕ) → Shows hold s → IsSolidSet s
solid_set hold s sh = record { set = record { ascending = sh.ascending; keys = sh.keys }; solid = sh.solid }

-- a history for which a hold stands is sound
pub sound_of : (hold : InHand) (h : List Entry) → Stands hold h → IsSound h
sound_of hold h st = record { legal = st.legal; set = solid_set hold (replay h) (stands_shows hold h st) }

-- ---- the cells at a point

-- the cells of a bucket in hand that have a point of it are all cells of the complex that have the point
pub star_is : (hold : InHand) (s : List ℕ) (p g b : ℕ) (c : BucketContent) (cells : List Cell) → Shows hold s →
    g ≡ hold.grid → b ≡ bucket_of g p → bucket_at hold.places b ≡ Some c → cells ≡ c.cells →
    filter (λ c. is_among p (points_of c)) cells ≡ filter (λ c. is_among p (points_of c)) (complex s)
star_is hold s p g b c cells st e1 e2 e3 e4 =
    ap (filter (λ c. is_among p (points_of c))) (e4 ∙ (st.sights b c e3).cells)
    ∙ filter_twice (λ c. is_among p (points_of c)) (touches hold.grid b) (complex s)
    (λ d t. touched hold.grid p b d (e2 ∙ ap (λ n. bucket_of n p) e1) (among_from p (points_of d) t))

-- they are those of the bucket with the point's number
pub around_in : (hold : InHand) (p g b : ℕ) (c : BucketContent) → g ≡ hold.grid → b ≡ bucket_of g p →
    bucket_at hold.places b ≡ Some c →
    filter (λ d. is_among p (points_of d)) c.cells ≡ filter (λ d. is_among p (points_of d))
    (cells_in hold.places (bucket_of hold.grid p))
around_in hold p g b c e f h =
    ap (λ (o : Option BucketContent). filter (λ d. is_among p (points_of d)) (option_map_or (λ x. x.cells) o []))
    (sym h)
    ∙ ap (λ n. filter (λ d. is_among p (points_of d)) (cells_in hold.places n)) (f ∙ ap (λ n. bucket_of n p) e)

-- ---- buckets in hand

-- the bucket of a point of the list is in hand
pub in_hand_for : (hold : InHand) (ps : List ℕ) (g p b : ℕ) (t : Bool) → g ≡ hold.grid → b ≡ bucket_of g p → IsIn p ps →
    t ≡ is_some (bucket_at hold.places b) → t ≡ true → IsInHandFor hold ps b
in_hand_for hold ps g p b t e1 e2 i e3 e4 =
    let r = some_is (bucket_at hold.places b) (sym e3 ∙ e4) in
    record { point = p; among = i; number = e2 ∙ ap (λ n. bucket_of n p) e1; content = r.0; held = r.1 }

-- the buckets of the first points and of the next are not in hand
pub none_more_in_hand : (hold : InHand) (l : List ℕ) (i g p b : ℕ) (t : Bool) → i < length l →
    p ≡ slice_index_or l i p → g ≡ hold.grid → b ≡ bucket_of g p → t ≡ is_some (bucket_at hold.places b) → t ≡ false →
    NoneInHand hold (take i l) → NoneInHand hold (take (i + 1) l)
none_more_in_hand hold l i g p b t h e e1 e2 e3 e4 none q k =
    elim (in_more l i p p q h e (subst (λ n. IsIn q (take n l)) (add-one i) k)) [
      | inl j ↦ none q j
      | inr f ↦ ap (bucket_at hold.places) (sym (e2 ∙ ap (λ n. bucket_of n p) e1 ∙ ap (bucket_of hold.grid) f))
          ∙ none_is (bucket_at hold.places b) (sym e3 ∙ e4)
    ]

-- ---- across a facet

-- a finite point of a facet of a cell is a point of the cell
pub facet_inside : (c : Cell) (f : Facet) (p : ℕ) → IsIn f (facets_of c) → IsIn p (points_on f) → IsIn p (points_of c)
facet_inside (Full (a ∷ b ∷ c ∷ d ∷ [])) f p i j = full i
  where
    by : (ps : List ℕ) → Three ps ≡ f → ((q : ℕ) → IsIn q ps → IsIn q (a ∷ b ∷ c ∷ d ∷ [])) →
        IsIn p (a ∷ b ∷ c ∷ d ∷ [])
    by ps e k = k p (subst (λ g. IsIn p (points_on g)) (sym e) j)

    full : IsIn f (full_facets (a ∷ b ∷ c ∷ d ∷ [])) → IsIn p (a ∷ b ∷ c ∷ d ∷ [])
    full (inl e) = by (b ∷ c ∷ d ∷ []) e (λ q m. inr m)
    full (inr (inl e)) = by (a ∷ c ∷ d ∷ []) e (λ q m. elim m [ inl n ↦ inl n | inr n ↦ inr (inr n) ])
    full (inr (inr (inl e))) = by (a ∷ b ∷ d ∷ []) e
        (λ q m. elim m [ inl n ↦ inl n | inr n ↦ elim n [ inl o ↦ inr (inl o) | inr o ↦ inr (inr (inr o)) ] ])
    full (inr (inr (inr (inl e)))) = by (a ∷ b ∷ c ∷ []) e
        (λ q m. elim m [
          | inl n ↦ inl n
          | inr n ↦ elim n
              [ inl o ↦ inr (inl o) | inr o ↦ elim o [ inl r ↦ inr (inr (inl r)) | inr r ↦ absurd r ] ]
        ])
    full (inr (inr (inr (inr e)))) = absurd e
facet_inside (Open (a ∷ b ∷ c ∷ [])) f p i j = of_open i
  where
    by : (g : Facet) → g ≡ f → ((q : ℕ) → IsIn q (points_on g) → IsIn q (a ∷ b ∷ c ∷ [])) → IsIn p (a ∷ b ∷ c ∷ [])
    by g e k = k p (subst (λ g. IsIn p (points_on g)) (sym e) j)

    of_open : IsIn f (open_facets (a ∷ b ∷ c ∷ [])) → IsIn p (a ∷ b ∷ c ∷ [])
    of_open (inl e) = by (Two (b ∷ c ∷ [])) e (λ q m. inr m)
    of_open (inr (inl e)) = by (Two (a ∷ c ∷ [])) e (λ q m. elim m [ inl n ↦ inl n | inr n ↦ inr (inr n) ])
    of_open (inr (inr (inl e))) = by (Two (a ∷ b ∷ [])) e
        (λ q m. elim m [ inl n ↦ inl n | inr n ↦ elim n [ inl o ↦ inr (inl o) | inr o ↦ absurd o ] ])
    of_open (inr (inr (inr (inl e)))) = by (Three (a ∷ b ∷ c ∷ [])) e (λ q m. m)
    of_open (inr (inr (inr (inr e)))) = absurd e
facet_inside (Full []) f p i j = absurd i
facet_inside (Full (a ∷ [])) f p i j = absurd i
facet_inside (Full (a ∷ b ∷ [])) f p i j = absurd i
facet_inside (Full (a ∷ b ∷ c ∷ [])) f p i j = absurd i
facet_inside (Full (a ∷ b ∷ c ∷ d ∷ e ∷ q)) f p i j = absurd i
facet_inside (Open []) f p i j = absurd i
facet_inside (Open (a ∷ [])) f p i j = absurd i
facet_inside (Open (a ∷ b ∷ [])) f p i j = absurd i
facet_inside (Open (a ∷ b ∷ c ∷ d ∷ q)) f p i j = absurd i

-- no facet of a cell is without points
pub facet_nonempty : (c : Cell) (f : Facet) → IsIn f (facets_of c) → points_on f ≡ [] → ⊥
facet_nonempty c f i e = by c i
  where
    none : (x : ℕ) (xs : List ℕ) (g : Facet) → g ≡ f → points_on g ≡ x ∷ xs → ⊥
    none x xs g h k = (let m : x ∷ xs ≡ [] = sym k ∙ ap points_on h ∙ e in absurd (cc m))

    by : (c : Cell) → IsIn f (facets_of c) → ⊥
    by (Full (a ∷ b ∷ c ∷ d ∷ [])) (inl h) = none b (c ∷ d ∷ []) (Three (b ∷ c ∷ d ∷ [])) h refl
    by (Full (a ∷ b ∷ c ∷ d ∷ [])) (inr (inl h)) = none a (c ∷ d ∷ []) (Three (a ∷ c ∷ d ∷ [])) h refl
    by (Full (a ∷ b ∷ c ∷ d ∷ [])) (inr (inr (inl h))) = none a (b ∷ d ∷ []) (Three (a ∷ b ∷ d ∷ [])) h refl
    by (Full (a ∷ b ∷ c ∷ d ∷ [])) (inr (inr (inr (inl h)))) = none a (b ∷ c ∷ []) (Three (a ∷ b ∷ c ∷ [])) h refl
    by (Full (a ∷ b ∷ c ∷ d ∷ [])) (inr (inr (inr (inr h)))) = h
    by (Open (a ∷ b ∷ c ∷ [])) (inl h) = none b (c ∷ []) (Two (b ∷ c ∷ [])) h refl
    by (Open (a ∷ b ∷ c ∷ [])) (inr (inl h)) = none a (c ∷ []) (Two (a ∷ c ∷ [])) h refl
    by (Open (a ∷ b ∷ c ∷ [])) (inr (inr (inl h))) = none a (b ∷ []) (Two (a ∷ b ∷ [])) h refl
    by (Open (a ∷ b ∷ c ∷ [])) (inr (inr (inr (inl h)))) = none a (b ∷ c ∷ []) (Three (a ∷ b ∷ c ∷ [])) h refl
    by (Open (a ∷ b ∷ c ∷ [])) (inr (inr (inr (inr h)))) = h
    by (Full []) i = i
    by (Full (a ∷ [])) i = i
    by (Full (a ∷ b ∷ [])) i = i
    by (Full (a ∷ b ∷ c ∷ [])) i = i
    by (Full (a ∷ b ∷ c ∷ d ∷ e ∷ q)) i = i
    by (Open []) i = i
    by (Open (a ∷ [])) i = i
    by (Open (a ∷ b ∷ [])) i = i
    by (Open (a ∷ b ∷ c ∷ d ∷ q)) i = i

-- where the bucket of a point of the facet is in hand, it has another cell on the facet
pub across_there : (hold : InHand) (cell : Cell) (f : Facet) (b : ℕ) (c : BucketContent) (cells : List Cell) →
    ShowsWith hold cell → IsIn f (facets_of cell) → IsInHandFor hold (points_on f) b →
    bucket_at hold.places b ≡ Some c → cells ≡ c.cells → HaveNoOther cells cell f → ⊥
across_there hold cell f b c cells w i held e1 e2 none =
    let st = w.1 in
    let o = listed_facets w.0 cell f st.ascending st.keys w.2 i in
    let t = touched hold.grid held.point b o.other held.number (facet_inside o.other f held.point o.has held.among) in
    let k = filtered_true (touches hold.grid b) (complex w.0) o.other o.listed t in
    none o.other (record {
      listed = subst (λ (l : List Cell). IsIn o.other l) (sym (e2 ∙ (st.sights b c e1).cells)) k;
      has = o.has;
      differs = o.differs;
    })

-- another cell on the facet in a bucket in hand is the one of the complex
pub across_is : (hold : InHand) (cell : Cell) (f : Facet) (b : ℕ) (c : BucketContent) (cells : List Cell) (other : Cell)
    → bucket_at hold.places b ≡ Some c → cells ≡ c.cells → IsOtherOf cells cell f other → (s : List ℕ) → Shows hold s →
    IsIn cell (complex s) → IsAcross s cell f other
across_is hold cell f b c cells other e1 e2 o s st i =
    let k = subst (λ (l : List Cell). IsIn other l) (e2 ∙ (st.sights b c e1).cells) o.listed in
    record { listed = (filtered_from (touches hold.grid b) (complex s) other k).0; has = o.has; differs = o.differs }
