-- The stars after an exchange.
use Rattle.std.specs.Prelude.{◌≡◌, ℕ, ◌+◌, ◌%◌, ◌<◌, ◌≤◌, Bool, true, false, not, List, [], ◌∷◌, ◌++◌, ◌⊎◌, length, map}
use Rattle.std.specs.Prelude.{slice_index, slice_index_or, MatchBool, cond, ◌==◌}
use Rattle.std.specs.List.{filter}
use Rattle.std.proofs.Common.{refl, sym, ◌∙◌, ap, subst, inl, inr, arith, take}
use Rattle.std.proofs.lemmas.List.{append-nil, map-append}
use Rattle.std.proofs.lemmas.List.Elements.{filter-append}
use Rattle.list_laws.proofs.Cited.{Gathered, below_each, filtered_from, filtered_true, gather_all, gather_step}
use Rattle.list_laws.proofs.Cited.{in_pushed, mapped_from, mapped_true, same_from, take_next}
use Rattle.point_order.specs.declared.cell.Cell.{Cell}
use Rattle.point_order.specs.Facets.{points_of}
use Rattle.point_order.specs.Sets.{IsIn, IsAscending}
use Rattle.cell_stars.specs.Places.{Placed, AreFiled, IsStarred, lies_in, part_of, star_at}
use Rattle.cell_stars.specs.Plans.{AreFor, AreVertices}
use Rattle.cell_stars.specs.Moves.{AreVerticesAt, AreTurnsFor, IsNumberFor, IsOwnNumber, IsSpare, IsTurnAdded}
use Rattle.list_laws.specs.Lists.{Gathers}
use Rattle.cell_stars.specs.Gathering.{FromCell, FromPoint}
use Rattle.cell_stars.proofs.KeyLaws.{owned_by, in_owned, owned_in, Keys, vertices, BelongsAt, one_key, at_key, no_key}

-- ---- vertices that are touched

-- the new list has the old one's points and the cell's
abbrev pub AddsPoints : Cell → List ℕ → List ℕ → Type 0
AddsPoints c old new = (p : ℕ) → (IsIn p new → IsIn p old ⊎ IsIn p (points_of c))
    × (IsIn p old ⊎ IsIn p (points_of c) → IsIn p new)

-- the next point is gathered
pub point_in : (ps : List ℕ) (n : ℕ) (old list new : List ℕ) (x : ℕ) → n < length ps → x ≡ slice_index_or ps n x →
    ((p : ℕ) → (IsIn p new → IsIn p list ⊎ (x ≡ p)) × (IsIn p list ⊎ (x ≡ p) → IsIn p new)) →
    Gathered FromPoint ps n old list → Gathered FromPoint ps (n + 1) old new
point_in ps n old list new x h e f s = gather_step FromPoint ps n old list new x x h e (λ p m. (f p).0 m)
    (λ p m. (f p).1 (inl m)) (λ p t. (f p).1 (inr t)) s

-- at the end all points of the cell are
pub points_added : (c : Cell) (ps : List ℕ) (n : ℕ) (old new : List ℕ) → ps ≡ points_of c → length ps ≤ n →
    Gathered FromPoint ps n old new → AddsPoints c old new
points_added c ps n old new e h g p = (
  λ m. elim (g.each p m) [
    | inl k ↦ inl k
    | inr r ↦ inr
        (subst (λ (l : List ℕ). IsIn p l) e (subst (λ q. IsIn q ps) r.2 r.1))
  ],
  λ m. elim m [
    | inl k ↦ g.kept p k
    | inr r ↦ gather_all FromPoint ps n old new h g p
        (subst (λ (l : List ℕ). IsIn p l) (sym e) r) p refl
  ],
)

-- and so those of the next cell
pub cell_step : (cells : List Cell) (n : ℕ) (old list new : List ℕ) (x d : Cell) → n < length cells →
    x ≡ slice_index_or cells n d → AddsPoints x list new → Gathered FromCell cells n old list →
    Gathered FromCell cells (n + 1) old new
cell_step cells n old list new x d h e g s = gather_step FromCell cells n old list new x d h e (λ p m. (g p).0 m)
    (λ p m. (g p).1 (inl m)) (λ p r. (g p).1 (inr r)) s

-- all vertices of an exchange
pub are_vertices : (gone fresh : List Cell) (none first second all : List ℕ) → none ≡ [] →
    Gathers FromCell gone none first → Gathers FromCell fresh first second →
    ((p : ℕ) → (IsIn p all → IsIn p second) × (IsIn p second → IsIn p all)) → AreVertices gone fresh all
are_vertices gone fresh none first second all e f g o = record {
  each = λ p i. elim (g.each p ((o p).0 i)) [
    | inl j ↦ elim (f.each p j) [ inl k ↦ absurd (subst (λ (l : List ℕ). IsIn p l) e k) | inr r ↦ (r.0, inl r.1, r.2) ]
    | inr r ↦ (r.0, inr r.1, r.2)
  ];
  all = λ p c i k. (o p).1 (elim i [ inl j ↦ g.kept p (f.all c j p k) | inr j ↦ g.all c j p k ]);
}

-- those of them that lie in the bucket are touched
pub are_touched : (gone fresh : List Cell) (b : Placed) (freed : List ℕ) (placed : List (ℕ × Cell)) (vertices : List ℕ)
    → AreFor gone fresh freed placed b → AreVertices gone fresh vertices →
    AreVerticesAt b freed placed (filter (lies_in b.place) vertices)
are_touched gone fresh b freed placed vertices f v = record {
  inside = λ p i. (filtered_from (lies_in b.place) vertices p i).1;
  gone = λ i p c j t q l. filtered_true (lies_in b.place) vertices p (v.all p c (inl (f.freed_gone i c j t).0) q) l;
  fresh = λ i p c j q l. filtered_true (lies_in b.place) vertices p (v.all p c (inr (f.placed_fresh i c j).0) q) l;
}

-- ---- the numbers of stars

-- the places of a star that is the vertex's own are found to be some or none
pub full_by : (s : ℕ × List ℕ) (p : ℕ) (l : List ℕ) (r : Bool) → l ≡ owned_by p s → r ≡ (length l == 0) →
    MatchBool (not r) ((s.0 ≡ p) × ((i : ℕ) × IsIn i s.1)) (s.0 ≡ p → (i : ℕ) → IsIn i s.1 → ⊥)
full_by s p [] true e f = λ q i m. subst (λ (k : List ℕ). IsIn i k) (sym e) (owned_in p i s q m)
full_by s p (x ∷ l) true e f = (let t = same_from (length (x ∷ l)) 0 (sym f) in absurd (omega (arith, t)))
full_by s p [] false e f = absurd (yes f)
  where
    yes : false ≡ true → ⊥
    yes g = cc g
full_by s p (x ∷ l) false e f = (let r = in_owned p x s (subst (λ (k : List ℕ). IsIn x k) e (inl refl)) in
    (r.0, (x, r.1)))

-- a key with a star of its own that has places has the vertex's own number
pub own_number : (b : Placed) (ks : Keys) (stars : List (ℕ × List ℕ)) (p i : ℕ) (k : ℕ × ℕ) →
    ks ≡ part_of b.keys p → stars ≡ b.stars → (i < length ks) × (slice_index (vertices ks) i ≡ p) →
    k ≡ slice_index_or ks i k → ((star_at stars k.1).0 ≡ p) × ((j : ℕ) × IsIn j (star_at stars k.1).1) →
    IsOwnNumber b p k.1
own_number b ks stars p i k ek es f e o =
    let t = at_key ks i k f.0 e in
    let same : k.0 ≡ p = sym t.1 ∙ f.1 in
    record {
      key = subst (λ (l : Keys). IsIn (p, k.1) l) ek (subst (λ (q : ℕ). IsIn (q, k.1) ks) same t.0);
      owned = ap (λ l. (star_at l k.1).0) (sym es) ∙ o.0;
      place = o.1.0;
      filled = subst (λ l. IsIn o.1.0 (star_at l k.1).1) es o.1.1;
    }

-- where the star beside the key has none, the vertex is in no star
pub no_own : (b : Placed) (ks : Keys) (stars : List (ℕ × List ℕ)) (p i : ℕ) (k : ℕ × ℕ) →
    ks ≡ part_of b.keys p → stars ≡ b.stars → IsAscending (vertices ks) →
    (i < length ks) × (slice_index (vertices ks) i ≡ p) →
    k ≡ slice_index_or ks i k → ((star_at stars k.1).0 ≡ p → (j : ℕ) → IsIn j (star_at stars k.1).1 → ⊥) → (j : ℕ) →
    IsStarred b.keys b.stars p j → ⊥
no_own b ks stars p i k ek es a f e n j s =
    let t = at_key ks i k f.0 e in
    let same : k.0 ≡ p = sym t.1 ∙ f.1 in
    let q : (p, s.number) ≡ k = one_key ks (p, s.number) k a (subst (λ (l : Keys). IsIn (p, s.number) l) (sym ek) s.key)
    t.0 (sym same) in
    let m : s.number ≡ k.1 = ap (λ y. y.1) q in
    n (ap (λ l. (star_at l k.1).0) es ∙ ap (λ y. (star_at b.stars y).0) (sym m) ∙ s.owned) j
    (subst (λ l. IsIn j (star_at l k.1).1) (sym es) (subst (λ y. IsIn j (star_at b.stars y).1) m s.listed))

-- nor where it has no key
pub no_own_at : (b : Placed) (ks : Keys) (p i : ℕ) → ks ≡ part_of b.keys p → BelongsAt ks p i → (j : ℕ) →
    IsStarred b.keys b.stars p j → ⊥
no_own_at b ks p i e f j s = no_key ks p i f (p, s.number) (subst (λ (l : Keys). IsIn (p, s.number) l) (sym e) s.key)
    refl

-- ---- the numbers that they have after an exchange

-- each vertex has one
one_turn : (ts : List (ℕ × ℕ)) (n m p : ℕ) → IsAscending (map (λ t. t.1) ts) → IsIn (n, p) ts → IsIn (m, p) ts → n ≡ m
one_turn [] n m p a i j = absurd i
one_turn (t ∷ ts) n m p a (inl e) (inl f) = ap (λ (x : ℕ × ℕ). x.0) (sym e ∙ f)
one_turn (t ∷ ts) n m p a (inl e) (inr j) =
    let h = below_each t.1 (map (λ x. x.1) ts) a.0 a.1 p (mapped_true (λ x. x.1) (m, p) ts j) in
    let f = ap (λ (x : ℕ × ℕ). x.1) e in absurd (omega (arith, h, f))
one_turn (t ∷ ts) n m p a (inr i) (inl f) =
    let h = below_each t.1 (map (λ x. x.1) ts) a.0 a.1 p (mapped_true (λ x. x.1) (n, p) ts i) in
    let e = ap (λ (x : ℕ × ℕ). x.1) f in absurd (omega (arith, h, e))
one_turn (t ∷ ts) n m p a (inr i) (inr j) = one_turn ts n m p a.1 i j

-- the number is the vertex's own; or it is spare and before the least, and the vertex has no star
abbrev pub IsHeld : Placed → ℕ → ℕ × ℕ → Type 0
IsHeld b least t =
    IsOwnNumber b t.1 t.0
    ⊎ ((t.0 < least) × IsSpare b.stars t.0 × ((i : ℕ) → IsStarred b.keys b.stars t.1 i → ⊥))

-- of one more element what passes is what passed before, and it if it passes
pub filter_next : {X : Type 0} (test : X → Bool) (xs : List X) (n : ℕ) (x : X) (t : Bool) → n < length xs →
    x ≡ slice_index_or xs n x → test x ≡ t →
    filter test (take (n + 1) xs) ≡ filter test (take n xs) ++ cond t (x ∷ []) []
filter_next test xs n x t h e q =
    ap (filter test) (take_next xs n x h e) ∙ filter-append test (take n xs) (x ∷ [])
    ∙ ap (λ r. filter test (take n xs) ++ cond r (x ∷ []) []) q

-- the numbers of the vertices so far
pub record NumberedSoFar (b : Placed) (ps : List ℕ) (least : ℕ) (turns : List (ℕ × ℕ)) : Type 0 where
  pub vertices : map (λ t. t.1) turns ≡ ps
  pub each : (n p : ℕ) → IsIn (n, p) turns → IsHeld b least (n, p)
  pub apart : (n p q : ℕ) → IsIn (n, p) turns → IsIn (n, q) turns → p ≡ q

-- of none
pub numbered_none : (b : Placed) (turns : List (ℕ × ℕ)) → turns ≡ [] → NumberedSoFar b [] 0 turns
numbered_none b turns e = record {
  vertices = ap (map (λ (t : ℕ × ℕ). t.1)) e;
  each = λ n p i. absurd (subst (λ (l : List (ℕ × ℕ)). IsIn (n, p) l) e i);
  apart = λ n p q i j. absurd (subst (λ (l : List (ℕ × ℕ)). IsIn (n, p) l) e i);
}

-- with one more
pub numbered_more : (b : Placed) (ps : List ℕ) (k p least more : ℕ) (turns new : List (ℕ × ℕ)) → k < length ps →
    p ≡ slice_index_or ps k p → lies_in b.place p ≡ true → IsTurnAdded b p least more turns new →
    NumberedSoFar b (filter (lies_in b.place) (take k ps)) least turns →
    NumberedSoFar b (filter (lies_in b.place) (take (k + 1) ps)) more new
numbered_more b ps k p least more turns new h e t a s = record {
  vertices =
      ap (map (λ (t : ℕ × ℕ). t.1)) a.added ∙ map-append (λ (t : ℕ × ℕ). t.1) turns ((a.number, p) ∷ [])
      ∙ ap (λ (l : List ℕ). l ++ p ∷ []) s.vertices ∙ sym (filter_next (lies_in b.place) ps k p true h e t);
  each = λ n q i. elim (in_pushed turns new (a.number, p) (n, q) a.added i) [
    | inl j ↦ elim (s.each n q j) [
      | inl o ↦ inl o
      | inr r ↦ inr ((let l = r.0 in let g = a.rises in omega (arith, l, g)), r.1, r.2)
    ]
    | inr f ↦ subst (IsHeld b more) f held
  ];
  apart = λ n q r i j. elim (in_pushed turns new (a.number, p) (n, q) a.added i) [
    | inl k ↦ elim (in_pushed turns new (a.number, p) (n, r) a.added j) [
      | inl l ↦ s.apart n q r k l
      | inr f ↦ beside n q k (ap (λ (t : ℕ × ℕ). t.0) f) ∙ ap (λ (t : ℕ × ℕ). t.1) f
    ]
    | inr f ↦ elim (in_pushed turns new (a.number, p) (n, r) a.added j) [
      | inl l ↦ sym (beside n r l (ap (λ (t : ℕ × ℕ). t.0) f) ∙ ap (λ (t : ℕ × ℕ). t.1) f)
      | inr g ↦ sym (ap (λ (t : ℕ × ℕ). t.1) f) ∙ ap (λ (t : ℕ × ℕ). t.1) g
    ]
  ];
}
  where
    held : IsHeld b more (a.number, p)
    held = elim a.held [ inl o ↦ inl o | inr r ↦ inr (r.1, r.2, r.3) ]

    beside : (n q : ℕ) → IsIn (n, q) turns → a.number ≡ n → q ≡ p
    beside n q i f = elim (s.each n q i) [
      | inl o ↦ elim a.held [
        | inl w ↦ sym o.owned ∙ ap (λ y. (star_at b.stars y).0) (sym f) ∙ w.owned
        | inr r ↦ absurd (r.2 o.place (subst (λ y. IsIn o.place (star_at b.stars y).1) (sym f) o.filled))
      ]
      | inr r ↦ elim a.held [
        | inl w ↦ absurd (r.1 w.place (subst (λ y. IsIn w.place (star_at b.stars y).1) f w.filled))
        | inr u ↦ (let l = r.0 in let g = u.0 in absurd (omega (arith, l, g, f)))
      ]
    ]

-- with one more that lies elsewhere
pub numbered_same : (b : Placed) (ps : List ℕ) (k p least : ℕ) (turns : List (ℕ × ℕ)) → k < length ps →
    p ≡ slice_index_or ps k p → lies_in b.place p ≡ false →
    NumberedSoFar b (filter (lies_in b.place) (take k ps)) least turns →
    NumberedSoFar b (filter (lies_in b.place) (take (k + 1) ps)) least turns
numbered_same b ps k p least turns h e t s = subst (λ (l : List ℕ). NumberedSoFar b l least turns)
    (sym (filter_next (lies_in b.place) ps k p false h e t ∙ append-nil (filter (lies_in b.place) (take k ps)))) s

-- of all
pub numbered_all : (b : Placed) (ps : List ℕ) (least : ℕ) (turns : List (ℕ × ℕ)) → IsAscending ps →
    NumberedSoFar b ps least turns → AreTurnsFor b ps turns
numbered_all b ps least turns a s = record {
  each = λ k p i. subst (λ (l : List ℕ). IsIn p l) s.vertices (mapped_true (λ t. t.1) (k, p) turns i);
  all = λ p i. (
      let r = mapped_from (λ t. t.1) p turns (subst (λ (l : List ℕ). IsIn p l) (sym s.vertices) i) in
      (r.0.0, subst (λ (q : ℕ). IsIn (r.0.0, q) turns) r.2 r.1));
  apart = s.apart;
  single = λ k j p i o. one_turn turns k j p (subst IsAscending (sym s.vertices) a) i o;
  vacant = λ k p q x i f g. elim (s.each k p i) [ inl o ↦ sym f ∙ o.owned | inr r ↦ absurd (r.1 x g) ];
  held = λ k p i. elim (s.each k p i) [ inl o ↦ inl o | inr r ↦ inr (r.1, r.2) ];
}

-- the star with the number of a vertex has the places of that
pub held_places : (b : Placed) (p n : ℕ) (items : List ℕ) → AreFiled b.keys →
    items ≡ owned_by p (star_at b.stars n) → IsNumberFor b p n → (i : ℕ) →
    (IsIn i items → IsStarred b.keys b.stars p i) × (IsStarred b.keys b.stars p i → IsIn i items)
held_places b p n items a e (inl o) i = (
  λ m. (
      let r = in_owned p i (star_at b.stars n) (subst (λ (l : List ℕ). IsIn i l) e m) in
      record { number = n; key = o.key; owned = r.0; listed = r.1 }),
  λ s. (
      let q : s.number ≡ n = ap (λ y. y.1)
      (one_key (part_of b.keys p) (p, s.number) (p, n) (a.order (p % length b.keys)) s.key o.key refl) in
      subst (λ (l : List ℕ). IsIn i l) (sym e)
      (owned_in p i (star_at b.stars n) o.owned (subst (λ y. IsIn i (star_at b.stars y).1) q s.listed))),
)
held_places b p n items a e (inr o) i = (
  λ m. absurd (o.0 i (in_owned p i (star_at b.stars n) (subst (λ (l : List ℕ). IsIn i l) e m)).1),
  λ s. absurd (o.1 i s),
)

-- where it has places, the vertex has a key with it
pub held_key : (b : Placed) (p n : ℕ) → IsNumberFor b p n → (i : ℕ) × IsIn i (star_at b.stars n).1 →
    IsIn (p, n) (part_of b.keys p)
held_key b p n (inl o) m = o.key
held_key b p n (inr o) m = absurd (o.0 m.0 m.1)
