-- Places that are added to stars.
use Rattle.std.specs.Prelude.{◌≡◌, ℕ, zero, suc, ◌+◌, ◌<◌, ◌≤◌, Bool, true, false, List, [], ◌∷◌, ◌++◌, ◌⊎◌, length}
use Rattle.std.specs.Prelude.{map, Option, slice_index_or, slice_set, MatchBool, ◌==◌}
use Rattle.std.proofs.Common.{refl, sym, ◌∙◌, ap, subst, inl, inr, arith, take, add-one}
use Rattle.std.proofs.lemmas.List.{map-append}
use Rattle.list_laws.proofs.Cited.{at_place, below_each, each_none, each_taken, in_more, in_pushed, in_take, last_one}
use Rattle.list_laws.proofs.Cited.{mapped_from, mapped_true, more_one, same_from, same_true, pushed_new, pushed_old}
use Rattle.list_laws.proofs.Cited.{take_next}
use Rattle.point_order.specs.declared.cell.Cell.{Cell}
use Rattle.point_order.specs.Facets.{points_of}
use Rattle.point_order.specs.Sets.{IsIn, IsAscending}
use Rattle.cell_stars.specs.Moves.{AreStarsAfter}
use Rattle.cell_stars.specs.Places.{Placed, IsStarred, lies_in}
use Rattle.cell_stars.specs.Adding.{AddsPlaces, AreStarsHere, HasMorePlaces, HasStarAt, IsOneMore, IsStaying, Numbered}
use Rattle.cell_stars.specs.Adding.{head_of}

-- the vertices of some stars with their numbers
abbrev pub vertices_of : List Numbered → List ℕ
vertices_of ws = map (λ w. w.1.0) ws

-- the vertex of one of them is among these
vertex_in : (ws : List Numbered) (w : Numbered) → IsIn w ws → IsIn w.1.0 (vertices_of ws)
vertex_in [] w i = absurd i
vertex_in (v ∷ ws) w (inl e) = inl (ap (λ (x : Numbered). x.1.0) e)
vertex_in (v ∷ ws) w (inr i) = inr (vertex_in ws w i)

-- the same heads have the same vertices
same_vertices : (ws vs : List Numbered) → map head_of ws ≡ map head_of vs → vertices_of ws ≡ vertices_of vs
same_vertices ws vs e = heads ws ∙ ap (map (λ (h : ℕ × ℕ). h.1)) e ∙ sym (heads vs)
  where
    heads : (l : List Numbered) → vertices_of l ≡ map (λ (h : ℕ × ℕ). h.1) (map head_of l)
    heads [] = refl
    heads (w ∷ l) = ap (λ (r : List ℕ). w.1.0 ∷ r) (heads l)

-- ---- where a star is

-- what is read at a place is read as one thing
one_at : (l : List Numbered) (k : ℕ) (x y : Numbered) → k < length l → x ≡ slice_index_or l k x →
    y ≡ slice_index_or l k y → x ≡ y
one_at [] k x y w e f = absurd (omega arith)
one_at (z ∷ l) zero x y w e f = e ∙ sym f
one_at (z ∷ l) (suc k) x y w e f = one_at l k x y (omega arith) e f

-- the star at a place is that of a vertex, or it is not
pub star_is : (ws : List Numbered) (at p : ℕ) (x : Numbered) (r : Bool) → at < length ws →
    x ≡ slice_index_or ws at x → r ≡ (x.1.0 == p) → MatchBool r (HasStarAt ws at p) (HasStarAt ws at p → ⊥)
star_is ws at p x true h e f = record { within = h; star = x; is = e; vertex = same_from x.1.0 p (sym f) }
star_is ws at p x false h e f = λ s. (
    let t = same_true x.1.0 p (ap (λ (y : Numbered). y.1.0) (one_at ws at x s.star h e s.is) ∙ s.vertex) in
    absurd (cc (f, t)))

-- where no place has the star of a vertex, none of the stars is its
pub none_of : (ws : List Numbered) (n p : ℕ) → length ws ≤ n → ((k : ℕ) → k < n → HasStarAt ws k p → ⊥) →
    (w : Numbered) → IsIn w ws → w.1.0 ≡ p → ⊥
none_of ws n p h f w m e = (let r = found ws w m in f r.0 (let t = r.1 in omega (arith, t, h))
    (record { within = r.1; star = w; is = r.2; vertex = e }))
  where
    found : (l : List Numbered) (w : Numbered) → IsIn w l → (k : ℕ) × (k < length l) × (w ≡ slice_index_or l k w)
    found [] w i = absurd i
    found (x ∷ l) w (inl q) = (0, omega arith, sym q)
    found (x ∷ l) w (inr i) = (let r = found l w i in (suc r.0, (let t = r.1 in omega (arith, t)), r.2))

-- ---- one star with one place more

-- what stands in the list after: the new one, or one of another vertex
in_set : (ws : List Numbered) (at : ℕ) (x before : Numbered) → IsAscending (vertices_of ws) → at < length ws →
    before ≡ slice_index_or ws at before → (w : Numbered) → IsIn w (slice_set ws at x) → (x ≡ w) ⊎ (IsIn w ws ×
    (w.1.0 ≡ before.1.0 → ⊥))
in_set [] at x before a h g w i = absurd (omega arith)
in_set (v ∷ ws) zero x before a h g w (inl e) = inl e
in_set (v ∷ ws) zero x before a h g w (inr m) = inr (
  inr m,
  λ q. (
      let b = below_each v.1.0 (vertices_of ws) a.0 a.1 w.1.0 (vertex_in ws w m) in
      let f : before.1.0 ≡ v.1.0 = ap (λ (y : Numbered). y.1.0) g in
      absurd (omega (arith, b, f, q))),
)
in_set (v ∷ ws) (suc at) x before a h g w (inl e) = inr (
  inl e,
  λ q. (
      let b = below_each v.1.0 (vertices_of ws) a.0 a.1 before.1.0 (vertex_in ws before (at_place ws at before before
      (omega arith) g)) in
      let f : v.1.0 ≡ w.1.0 = ap (λ (y : Numbered). y.1.0) e in
      absurd (omega (arith, b, f, q))),
)
in_set (v ∷ ws) (suc at) x before a h g w (inr m) = elim (in_set ws at x before a.1
    (omega arith) g w m) [ inl e ↦ inl e | inr r ↦ inr (inr r.0, r.1) ]

-- with a star set that has the same number and vertex, all numbers and vertices are as before
heads_set : (ws : List Numbered) (at : ℕ) (x before : Numbered) → before ≡ slice_index_or ws at before →
    head_of x ≡ head_of before → map head_of (slice_set ws at x) ≡ map head_of ws
heads_set [] at x before g e = refl
heads_set (v ∷ ws) zero x before g e = ap (λ (h : ℕ × ℕ). h ∷ map head_of ws) (e ∙ ap head_of g)
heads_set (v ∷ ws) (suc at) x before g e = ap (λ (l : List (ℕ × ℕ)). head_of v ∷ l) (heads_set ws at x before g e)

-- where nothing is told of any vertex of the stars, they stay
pub adds_none : (R : ℕ → ℕ → Type 0) (ws : List Numbered) → ((w : Numbered) (i : ℕ) → IsIn w ws → R w.1.0 i → ⊥) →
    AddsPlaces R ws ws
adds_none R ws n = record {
  heads = refl;
  each = λ w m. record {
    before = w;
    was = m;
    same = refl;
    places = λ i. (
      λ k. inl k,
      λ t. elim t [ inl k ↦ k | inr r ↦ absurd (n w i m r) ],
    );
  };
}

-- a star that has one place more, where it is the vertex's own
pub adds_one : (place : Option (ℕ × ℕ)) (p i at : ℕ) (old new : List Numbered) → AreStarsHere place old →
    HasStarAt old at p → IsOneMore at i old new → AddsPlaces (λ q j. (p ≡ q) × (i ≡ j)) old new
adds_one place p i at old new a h o = rw o.is (record { heads = heads_set old at more o.star o.was refl; each = each })
  where
    more : Numbered
    more = (o.star.0, (o.star.1.0, o.star.1.1 ++ i ∷ []))

    one : o.star.1.0 ≡ p
    one = ap (λ (y : Numbered). y.1.0) (one_at old at o.star h.star h.within o.was h.is) ∙ h.vertex

    here : HasMorePlaces (λ q j. (p ≡ q) × (i ≡ j)) old more
    here = record {
      before = o.star;
      was = at_place old at o.star o.star h.within o.was;
      same = refl;
      places = λ j. (
        λ m. elim (in_pushed o.star.1.1 (o.star.1.1 ++ i ∷ []) i j refl m) [ inl k ↦ inl k | inr e ↦ inr (sym one, e) ],
        λ t. elim t [
          | inl k ↦ pushed_old o.star.1.1 (o.star.1.1 ++ i ∷ []) i j refl k
          | inr r ↦ subst (λ (y : ℕ). IsIn y (o.star.1.1 ++ i ∷ [])) r.1 (pushed_new o.star.1.1
              (o.star.1.1 ++ i ∷ []) i refl)
        ],
      );
    }

    each : (w : Numbered) → IsIn w (slice_set old at more) → HasMorePlaces (λ q j. (p ≡ q) × (i ≡ j)) old w
    each w m = elim (in_set old at more o.star a.order h.within o.was w m) [
      | inl e ↦ subst (HasMorePlaces (λ q j. (p ≡ q) × (i ≡ j)) old) e here
      | inr r ↦ record {
        before = w;
        was = r.0;
        same = refl;
        places = λ j. (λ k. inl k, λ t. elim t [ inl k ↦ k | inr q ↦ absurd (r.1 (sym q.0 ∙ sym one)) ]);
      }
    ]

-- a point that lies elsewhere has no star
pub elsewhere : (place : Option (ℕ × ℕ)) (p : ℕ) (r : Bool) (ws : List Numbered) → AreStarsHere place ws →
    r ≡ lies_in place p → r ≡ false → (w : Numbered) → IsIn w ws → w.1.0 ≡ p → ⊥
elsewhere place p r ws a e f w m q = (let u = sym (ap (lies_in place) q) ∙ a.inside w m in absurd (cc (e, f, u)))

-- where the vertex has no star they stay
pub adds_starless : (p i : ℕ) (ws : List Numbered) → ((w : Numbered) → IsIn w ws → w.1.0 ≡ p → ⊥) → AddsPlaces
    (λ q j. (p ≡ q) × (i ≡ j)) ws ws
adds_starless p i ws n = adds_none (λ q j. (p ≡ q) × (i ≡ j)) ws (λ w j m t. n w m (sym t.0))

-- ---- one after another

-- stars that gain places are in order and lie in the bucket still
pub still_here : (R : ℕ → ℕ → Type 0) (place : Option (ℕ × ℕ)) (old new : List Numbered) → AddsPlaces R old new →
    AreStarsHere place old → AreStarsHere place new
still_here R place old new a h = record {
  order = subst IsAscending (sym (same_vertices new old a.heads)) h.order;
  inside = λ w m. (let t = a.each w m in ap (lies_in place) (sym t.same) ∙ h.inside t.before t.was);
}

-- what is added in two steps is added in one
pub adds_then : (R S T : ℕ → ℕ → Type 0) (old mid new : List Numbered) → AddsPlaces R old mid →
    AddsPlaces S mid new → ((p i : ℕ) → (R p i ⊎ S p i → T p i) × (T p i → R p i ⊎ S p i)) → AddsPlaces T old new
adds_then R S T old mid new a b f = record {
  heads = b.heads ∙ a.heads;
  each = λ w m. (
      let s = b.each w m in
      let t = a.each s.before s.was in
      record {
        before = t.before;
        was = t.was;
        same = t.same ∙ s.same;
        places = λ i. (
          λ k. elim ((s.places i).0 k) [
            | inl j ↦ elim ((t.places i).0 j) [
              | inl x ↦ inl x
              | inr x ↦ inr ((f w.1.0 i).0 (inl (subst
                  (λ p. R p i) s.same x)))
            ]
            | inr x ↦ inr ((f w.1.0 i).0 (inr x))
          ],
          λ u. (s.places i).1 (elim u [
            | inl x ↦ inl ((t.places i).1 (inl x))
            | inr x ↦ elim ((f w.1.0 i).1 x) [
              | inl y ↦ inl ((t.places i).1 (inr (subst (λ p. R p i)
                  (sym s.same) y)))
              | inr y ↦ inr y
            ]
          ]),
        );
      });
}

-- the place of a cell, for the first ones of its points
pub point_none : (ps : List ℕ) (i : ℕ) (ws : List Numbered) → AddsPlaces (λ q j. IsIn q (take 0 ps) × (i ≡ j)) ws ws
point_none ps i ws = adds_none (λ q j. IsIn q (take 0 ps) × (i ≡ j)) ws (λ w j m t. each_none (λ q. ⊥) ps w.1.0 t.0)

-- with the star of the next point
pub point_more : (ps : List ℕ) (n x i : ℕ) (old mid new : List Numbered) → n < length ps →
    x ≡ slice_index_or ps n x → AddsPlaces (λ q j. IsIn q (take n ps) × (i ≡ j)) old mid → AddsPlaces (λ q j.
    (x ≡ q) × (i ≡ j)) mid new → AddsPlaces (λ q j. IsIn q (take (n + 1) ps) × (i ≡ j)) old new
point_more ps n x i old mid new h e a b = rw add-one (adds_then (λ q j. IsIn q (take n ps) × (i ≡ j)) (λ q j.
    (x ≡ q) × (i ≡ j)) (λ q j. IsIn q (take (suc n) ps) × (i ≡ j)) old mid new a b (λ q j. (
      λ t. elim t [
        | inl m ↦ (more_one ps n q m.0, m.1)
        | inr m ↦ (subst (λ (y : ℕ). IsIn y (take (suc n) ps)) m.0 (last_one ps n x x h e), m.1)
      ],
      λ t. elim (in_more ps n x x q h e t.0) [ inl m ↦ inl (m, t.1) | inr m ↦ inr (m, t.1) ],
    )))

-- at the end of all its points
pub points_all : (c : Cell) (ps : List ℕ) (n i : ℕ) (old new : List Numbered) → ps ≡ points_of c → length ps ≤ n →
    AddsPlaces (λ q j. IsIn q (take n ps) × (i ≡ j)) old new → AddsPlaces (λ q j. IsIn q (points_of c) ×
    (i ≡ j)) old new
points_all c ps n i old new e h a = subst (λ (l : List ℕ). AddsPlaces (λ q j. IsIn q l × (i ≡ j)) old new) e
    (adds_then (λ q j. IsIn q (take n ps) × (i ≡ j)) (λ q j. ⊥) (λ q j. IsIn q ps × (i ≡ j)) old new new a
    (adds_none (λ q j. ⊥) new (λ w j m t. t)) (λ q j. (
      λ t. elim t [ inl m ↦ (in_take n ps q m.0, m.1) | inr f ↦ absurd f ],
      λ t. inl (each_taken (λ y. IsIn y (take n ps)) ps n h (λ y m. m) q t.0, t.1),
    )))

-- the places of the first ones of the cells
abbrev pub Put : List (ℕ × Cell) → ℕ → ℕ → ℕ → Type 0
Put placed n q j = (c : Cell) × IsIn (j, c) (take n placed) × IsIn q (points_of c)

-- of no cell yet nothing
pub put_none : (placed : List (ℕ × Cell)) (ws : List Numbered) → AddsPlaces (Put placed 0) ws ws
put_none placed ws = adds_none (Put placed 0) ws (λ w j m t. each_none (λ x. ⊥) placed (j, t.0) t.1)

-- with the place of the next cell
pub put_more : (placed : List (ℕ × Cell)) (n : ℕ) (x : ℕ × Cell) (old mid new : List Numbered) → n < length placed →
    x ≡ slice_index_or placed n x → AddsPlaces (Put placed n) old mid → AddsPlaces (λ q j. IsIn q (points_of x.1) ×
    (x.0 ≡ j)) mid new → AddsPlaces (Put placed (n + 1)) old new
put_more placed n x old mid new h e a b = rw add-one (adds_then (Put placed n) (λ q j. IsIn q (points_of x.1) ×
    (x.0 ≡ j)) (Put placed (suc n)) old mid new a b (λ q j. (
      λ t. elim t [
        | inl m ↦ (m.0, more_one placed n (j, m.0) m.1, m.2)
        | inr m ↦ (x.1, subst (λ (y : ℕ). IsIn (y, x.1) (take (suc n) placed)) m.1 (last_one placed n x x h e), m.0)
      ],
      λ t. elim (in_more placed n x x (j, t.0) h e t.1) [
        | inl m ↦ inl (t.0, m, t.2)
        | inr m ↦ inr (
          subst (λ (c : Cell). IsIn q (points_of c)) (sym (ap (λ (y : ℕ × Cell). y.1) m)) t.2,
          ap (λ
              (y : ℕ × Cell). y.0) m,
        )
      ],
    )))

-- at the end of all cells
pub put_all : (placed : List (ℕ × Cell)) (n : ℕ) (old new : List Numbered) → length placed ≤ n → AddsPlaces
    (Put placed n) old new → AddsPlaces (λ q j. (c : Cell) × IsIn (j, c) placed × IsIn q (points_of c)) old new
put_all placed n old new h a = adds_then (Put placed n) (λ q j. ⊥) (λ q j. (c : Cell) × IsIn (j, c) placed × IsIn q
    (points_of c)) old new new a (adds_none (λ q j. ⊥) new (λ w j m t. t)) (λ q j. (
      λ t. elim t [ inl m ↦ (m.0, in_take n placed (j, m.0) m.1, m.2) | inr f ↦ absurd f ],
      λ t. inl (t.0, each_taken (λ y. IsIn y (take n placed)) placed n h (λ y m. m) (j, t.0) t.1, t.2),
    ))

-- ---- the stars without the freed places

-- the numbers and vertices of the first turns, with one star more
pub heads_more : (turns : List (ℕ × ℕ)) (n : ℕ) (x : ℕ × ℕ) (list new : List Numbered) (w : Numbered) →
    n < length turns → x ≡ slice_index_or turns n x → w.1.0 ≡ x.1 → new ≡ list ++ (x.0, w.1) ∷ [] →
    map head_of list ≡ take n turns → map head_of new ≡ take (n + 1) turns
heads_more turns n x list new w h e v p i =
    ap (map head_of) p ∙ map-append head_of list ((x.0, w.1) ∷ []) ∙ ap (λ (l : List (ℕ × ℕ)). l ++ (x.0, w.1.0) ∷ []) i
    ∙ ap (λ (q : ℕ). take n turns ++ (x.0, q) ∷ []) v ∙ sym (take_next turns n x h e)

-- with a star more that has what stays of its places, each has just what stays
pub staying_more : (b : Placed) (freed : List ℕ) (x : ℕ × ℕ) (list new : List Numbered) (s : ℕ × List ℕ) →
    s.0 ≡ x.1 → ((i : ℕ) → (IsIn i s.1 → IsStarred b.keys b.stars x.1 i × (IsIn i freed → ⊥)) ×
    (IsStarred b.keys b.stars x.1 i × (IsIn i freed → ⊥) → IsIn i s.1)) → new ≡ list ++ (x.0, s) ∷ [] →
    ((w : Numbered) → IsIn w list → IsStaying b freed w) → (w : Numbered) → IsIn w new → IsStaying b freed w
staying_more b freed x list new s v f p i w m = elim (in_pushed list new (x.0, s) w p m) [
  | inl k ↦ i w k
  | inr e ↦ subst (IsStaying b freed) e (subst (λ (q : ℕ). (i : ℕ) → (IsIn i s.1 → IsStarred b.keys b.stars q i ×
      (IsIn i freed → ⊥)) × (IsStarred b.keys b.stars q i × (IsIn i freed → ⊥) → IsIn i s.1)) (sym v) f)
]

-- ---- the stars after an exchange

-- stars with the numbers and vertices of these turns
pub stars_here : (place : Option (ℕ × ℕ)) (turns : List (ℕ × ℕ)) (ws : List Numbered) → map head_of ws ≡ turns →
    IsAscending (map (λ t. t.1) turns) → ((n p : ℕ) → IsIn (n, p) turns → lies_in place p ≡ true) →
    AreStarsHere place ws
stars_here place turns ws e a f = record {
  order = subst IsAscending (sym (vertices ws ∙ ap (map (λ (h : ℕ × ℕ). h.1)) e)) a;
  inside = λ w m. f w.0 w.1.0 (subst (IsIn (head_of w)) e (mapped_true head_of w ws m));
}
  where
    vertices : (l : List Numbered) → vertices_of l ≡ map (λ (h : ℕ × ℕ). h.1) (map head_of l)
    vertices [] = refl
    vertices (w ∷ l) = ap (λ (r : List ℕ). w.1.0 ∷ r) (vertices l)

-- stars that have what stays, and to which what comes is added, are those after the exchange
pub added_after : (b : Placed) (freed : List ℕ) (placed : List (ℕ × Cell)) (turns : List (ℕ × ℕ))
    (old new : List Numbered) → ((n p : ℕ) → IsIn (n, p) turns → lies_in b.place p ≡ true) →
    map head_of old ≡ turns → ((w : Numbered) → IsIn w old → IsStaying b freed w) → AddsPlaces (λ q j.
    (c : Cell) × IsIn (j, c) placed × IsIn q (points_of c)) old new → AreStarsAfter b freed placed turns new
added_after b freed placed turns old new f e s a = record {
  each = λ n w m. head (n, w) m;
  all = λ n p m. (
      let r = mapped_from head_of (n, p) new (subst (IsIn (n, p)) (sym heads) m) in
      (r.0.1.1, subst (λ (y : Numbered). IsIn y new) (ap (λ (h : ℕ × ℕ). (h.0, (h.1, r.0.1.1))) r.2) r.1));
  places = λ n i w m. (
      let t = a.each (n, w) m in
      let k = s t.before t.was i in
      let inside = f n w.0 (head (n, w) m) in (
        λ j. elim ((t.places i).0 j) [
          | inl x ↦ (let y = k.0 x in inl (subst (λ (p : ℕ). IsStarred b.keys b.stars p i) t.same y.0, y.1))
          | inr x ↦ inr (record { cell = x.0; put = x.1; has = x.2; inside = inside })
        ],
        λ j. (t.places i).1 (elim j [
          | inl x ↦ inl (k.1 (subst (λ (p : ℕ). IsStarred b.keys b.stars p i) (sym t.same) x.0, x.1))
          | inr x ↦ inr (x.cell, x.put, x.has)
        ]),
      ));
}
  where
    heads : map head_of new ≡ turns
    heads = a.heads ∙ e

    head : (w : Numbered) → IsIn w new → IsIn (head_of w) turns
    head w m = subst (IsIn (head_of w)) heads (mapped_true head_of w new m)
