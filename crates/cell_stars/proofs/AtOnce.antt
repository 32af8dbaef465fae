-- Cells that are put in all at once.
use Rattle.std.specs.Prelude.{◌≡◌, ℕ, zero, suc, ◌+◌, ◌<◌, ◌≤◌, true, List, [], ◌∷◌, ◌++◌, ◌⊎◌, length, map, Option}
use Rattle.std.specs.Prelude.{Some, slice_index, slice_index_or, slice_set}
use Rattle.std.specs.List.Sorted.{IsStrictlySortedBy}
use Rattle.std.proofs.Common.{refl, sym, ◌∙◌, ap, subst, inl, inr, arith, take}
use Rattle.std.proofs.lemmas.List.{get_or-set_same, get_or-set_other, map-append, take_all}
use Rattle.del_laws.proofs.Cited.{same_members}
use Rattle.list_laws.proofs.Cited.{Gathered, each_none, gather_push, gather_skip, gather_step, in_pushed, in_snoc}
use Rattle.list_laws.proofs.Cited.{index_in, len_set, pushed_new, pushed_old, snoc_new, snoc_old, same_from, same_true}
use Rattle.list_laws.proofs.Cited.{take_next}
use Rattle.point_order.specs.declared.cell.Cell.{Cell}
use Rattle.point_order.specs.CellOrder.{cell_cmp}
use Rattle.point_order.specs.Facets.{points_of}
use Rattle.point_order.specs.Sets.{IsIn, IsAscending}
use Rattle.cell_stars.specs.AtOnce.{AreKeyed, AreNumberedTo, FromCellHere, GainsPlaces, HaveKeys, StandsAtHere}
use Rattle.cell_stars.specs.AtOnce.{StandsHere}
use Rattle.list_laws.specs.Lists.{Gathers}
use Rattle.bucket_grid.specs.Grids.{bucket_of}
use Rattle.cell_stars.specs.Places.{AreFiled, AreStars, IsStarred, IsStarredBy, cells_of, lies_in, star_at, at_slot}
use Rattle.cell_stars.specs.Swaps.{Differ, touches}
use Rattle.cell_stars.specs.Moves.{AreKeysOf}
use Rattle.cell_stars.proofs.KeyLaws.{Parts, at_key, one_key, same_or_not, vertices}
use Rattle.cell_stars.proofs.Moved.{in_placed, placed_in, placed_sorted}
use Rattle.cell_stars.proofs.Orders.{sorted_differ}

-- stars, each a vertex with places
abbrev Stars : Type 0
Stars = List (ℕ × List ℕ)

-- ---- lists that are made of others, element by element

-- one element more is mapped
pub map_more : {X Y : Type 0} (f : X → Y) (l : List X) (n : ℕ) (x : X) (list new : List Y) → n < length l →
    x ≡ slice_index_or l n x →
    new ≡ list ++ f x ∷ [] → list ≡ map f (take n l) → new ≡ map f (take (n + 1) l)
map_more f l n x list new h e p s = p ∙ ap (λ v. v ++ f x ∷ []) s
    ∙ sym (ap (map f) (take_next l n x h e) ∙ map-append f (take n l) (x ∷ []))

-- at the end all are
pub map_all : {X Y : Type 0} (f : X → Y) (l : List X) (n : ℕ) (list : List Y) → length l ≤ n → list ≡ map f (take n l) →
    list ≡ map f l
map_all f l n list h s = s ∙ ap (map f) (take_all n l h)

-- ---- the vertices that lie in the bucket

-- the next point lies in the bucket and is gathered
pub here_more : (g b : ℕ) (ps : List ℕ) (n : ℕ) (old list new : List ℕ) (x : ℕ) → n < length ps →
    x ≡ slice_index_or ps n x →
    bucket_of g x ≡ b → new ≡ list ++ x ∷ [] → Gathered (StandsHere g b) ps n old list →
    Gathered (StandsHere g b) ps (n + 1) old new
here_more g b ps n old list new x h e t p s =
    gather_push (StandsHere g b) ps n old list new x x x h e (refl, same_true (bucket_of g x) b t) (λ z r. r.0) p s

-- or it does not, and is not
pub here_not : (g b : ℕ) (ps : List ℕ) (n : ℕ) (old list : List ℕ) (x : ℕ) → n < length ps → x ≡ slice_index_or ps n x →
    (bucket_of g x ≡ b → ⊥) → Gathered (StandsHere g b) ps n old list → Gathered (StandsHere g b) ps (n + 1) old list
here_not g b ps n old list x h e t s =
    gather_skip (StandsHere g b) ps n old list x x h e
    (λ z r. t (ap (bucket_of g) r.0 ∙ same_from (bucket_of g z) b r.1)) s

-- the points of the next cell are gathered
pub cell_here : (g b : ℕ) (cells : List Cell) (n : ℕ) (old list new : List ℕ) (x d : Cell) → n < length cells →
    x ≡ slice_index_or cells n d →
    Gathers (StandsHere g b) (points_of x) list new → Gathered (FromCellHere g b) cells n old list →
    Gathered (FromCellHere g b) cells (n + 1) old new
cell_here g b cells n old list new x d h e k s =
    gather_step (FromCellHere g b) cells n old list new x d h e
    (λ p m. elim (k.each p m) [ inl i ↦ inl i | inr r ↦ inr (subst (λ q. IsIn q (points_of x)) r.2.0 r.1, r.2.1) ])
    k.kept (λ p r. k.all p r.0 p (refl, r.1)) s

-- in any other list with the same points
pub same_gathered : (g b : ℕ) (cells : List Cell) (list new : List ℕ) →
    ((p : ℕ) → (IsIn p list → IsIn p new) × (IsIn p new → IsIn p list)) →
    Gathers (FromCellHere g b) cells [] list → Gathers (FromCellHere g b) cells [] new
same_gathered g b cells list new f s = record {
  each = λ p m. s.each p ((f p).1 m);
  kept = λ p m. absurd m;
  all = λ c i p r. (f p).0 (s.all c i p r);
}

-- ---- numbers for the vertices

-- at first no vertex has a number
pub number_none : (l : List ℕ) (keys : List (ℕ × ℕ)) → keys ≡ [] → AreNumberedTo 0 l keys
number_none l keys e = record {
  vertices_are = ap vertices e;
  each = λ k m. absurd (subst (λ ks. IsIn k ks) e m);
}

-- the next vertex gets its place for a number
pub number_more : (l : List ℕ) (n x : ℕ) (keys new : List (ℕ × ℕ)) → n < length l → x ≡ slice_index_or l n x →
    new ≡ keys ++ (x, n) ∷ [] →
    AreNumberedTo n l keys → AreNumberedTo (n + 1) l new
number_more l n x keys new h e p s = record {
  vertices_are = ap vertices p ∙ map-append (λ (k : ℕ × ℕ). k.0) keys ((x, n) ∷ [])
      ∙ ap (λ v. v ++ x ∷ []) s.vertices_are ∙ sym (take_next l n x h e);
  each = λ k m. elim (in_pushed keys new (x, n) k p m) [
    | inl i ↦ s.each k i
    | inr q ↦ subst (λ (k : ℕ × ℕ). (k.1 < length l) × (slice_index l k.1 ≡ k.0)) q (h, there l n x h e)
  ];
}
  where
    there : (l : List ℕ) (n x : ℕ) → n < length l → x ≡ slice_index_or l n x → slice_index l n ≡ x
    there [] n x h e = absurd (omega arith)
    there (y ∷ l) zero x h e = sym e
    there (y ∷ l) (suc n) x h e = there l n x (omega arith) e

-- at the end all have numbers
pub number_all : (l : List ℕ) (n : ℕ) (keys : List (ℕ × ℕ)) → length l ≤ n → AreNumberedTo n l keys →
    AreNumberedTo (length l) l keys
number_all l n keys h s = record {
  vertices_are = s.vertices_are ∙ take_all n l h ∙ sym (take_all (length l) l (omega arith));
  each = s.each;
}

-- ---- stars that gain places

-- a star without places is there for each vertex
bare_at : (l : List ℕ) (n : ℕ) → n < length l → star_at (map (λ p. (p, [])) l) n ≡ (slice_index l n, [])
bare_at [] n h = absurd (omega arith)
bare_at (p ∷ l) zero h = refl
bare_at (p ∷ l) (suc n) h = bare_at l n (omega arith)

-- there are as many of them as vertices
bare_length : (l : List ℕ) → (let bare : List (ℕ × List ℕ) = map (λ p. (p, [])) l in length bare ≡ length l)
bare_length [] = refl
bare_length (p ∷ l) = ap suc (bare_length l)

-- the stars without places are the vertices' own
pub bare_keyed : (l : List ℕ) (keys : List (ℕ × ℕ)) (stars : Stars) → IsAscending l → AreNumberedTo (length l) l keys →
    stars ≡ map (λ p. (p, [])) l →
    AreKeyed keys stars
bare_keyed l keys stars a s e = record {
  order = subst IsAscending (sym (s.vertices_are ∙ take_all (length l) l (omega arith))) a;
  within = λ k m. (let h = (s.each k m).0 in let q = ap length e ∙ bare_length l in omega (arith, h, q));
  owned = λ k m. ap (λ v. (star_at v k.1).0) e ∙ ap (λ (s : ℕ × List ℕ). s.0) (bare_at l k.1 (s.each k m).0)
      ∙ (s.each k m).1;
}

-- none of them names a place
pub bare_none : (l : List ℕ) (keys : List (ℕ × ℕ)) (stars : Stars) (p i : ℕ) → AreNumberedTo (length l) l keys →
    stars ≡ map (λ p. (p, [])) l →
    IsStarredBy keys stars p i → ⊥
bare_none l keys stars p i s e r =
    let h = (s.each (p, r.number) r.key).0 in
    let q : (star_at stars r.number).1 ≡ [] = ap (λ v. (star_at v r.number).1) e
    ∙ ap (λ (s : ℕ × List ℕ). s.1) (bare_at l r.number h) in
    subst (λ (v : List ℕ). IsIn i v) q r.listed

-- a star that is set stands there
set_one : (stars : Stars) (n : ℕ) (s : ℕ × List ℕ) → n < length stars → star_at (slice_set stars n s) n ≡ s
set_one stars n s h = get_or-set_same stars n s (0, []) h

-- and all others stand as before
set_other : (stars : Stars) (n m : ℕ) (s : ℕ × List ℕ) → (m ≡ n → ⊥) → star_at (slice_set stars n s) m ≡ star_at stars m
set_other stars n m s f = get_or-set_other stars n m s (0, []) f

-- one star has one place more
pub gains_one : (keys : List (ℕ × ℕ)) (old new : Stars) (p i n : ℕ) → AreKeyed keys old → IsIn (p, n) keys →
    new ≡ slice_set old n ((star_at old n).0, (star_at old n).1 ++ i ∷ []) →
    GainsPlaces keys (λ q j. (p ≡ q) × (i ≡ j)) old new
gains_one keys old new p i n a k e = record {
  keyed = record {
    order = a.order;
    within = λ l m. (let h = a.within l m in let q = ap length e ∙ len_set old n s in omega (arith, h, q));
    owned = λ l m. elim (at_number l.1) [
      | inl r ↦ ap (λ (t : ℕ × List ℕ). t.0) r.1
          ∙ ap (λ v. (star_at old v).0) (sym r.0) ∙ a.owned l m
      | inr r ↦ ap (λ (t : ℕ × List ℕ). t.0) r.1 ∙ a.owned l m
    ];
  };
  only = only;
  kept = kept;
  came = λ q j r. subst (λ v. IsStarredBy keys new v j) r.0 (subst (λ v. IsStarredBy keys new p v) r.1 here);
}
  where
    s : ℕ × List ℕ
    s = ((star_at old n).0, (star_at old n).1 ++ i ∷ [])

    at_number : (m : ℕ) → ((m ≡ n) × (star_at new m ≡ s)) ⊎ ((m ≡ n → ⊥) × (star_at new m ≡ star_at old m))
    at_number m = elim (same_or_not m n) [
      | inl q ↦ inl (
        q,
        ap (λ v. star_at v m) e ∙ ap (λ v. star_at (slice_set old n s) v) q
            ∙ set_one old n s (a.within (p, n) k),
      )
      | inr q ↦ inr (q, ap (λ v. star_at v m) e ∙ set_other old n m s q)
    ]

    by_number : (l m : ℕ × ℕ) → IsIn l keys → IsIn m keys → l.1 ≡ m.1 → l ≡ m
    by_number l m c d f = one_key keys l m a.order c d (sym (a.owned l c) ∙ ap (λ v. (star_at old v).0) f ∙ a.owned m d)

    only : (q j : ℕ) → IsStarredBy keys new q j → IsStarredBy keys old q j ⊎ ((p ≡ q) × (i ≡ j))
    only q j r = elim (at_number r.number) [
      | inl t ↦ (
          let same : (p, n) ≡ (q, r.number) = by_number (p, n) (q, r.number) k r.key (sym t.0) in
          let pq : p ≡ q = ap (λ (v : ℕ × ℕ). v.0) same in
          elim (in_snoc (star_at old n).1 i j (subst (λ (v : List ℕ). IsIn j v) (ap (λ (v : ℕ × List ℕ). v.1) t.1)
          r.listed)) [
            | inl m ↦ inl (record {
              number = r.number;
              key = r.key;
              owned = a.owned (q, r.number) r.key;
              listed = subst (λ v. IsIn j (star_at old v).1) (sym t.0) m;
            })
            | inr m ↦ inr (pq, m)
          ])
      | inr t ↦ inl (record {
        number = r.number;
        key = r.key;
        owned = a.owned (q, r.number) r.key;
        listed = subst (λ (v : List ℕ). IsIn j v) (ap (λ (v : ℕ × List ℕ). v.1) t.1) r.listed;
      })
    ]

    kept : (q j : ℕ) → IsStarredBy keys old q j → IsStarredBy keys new q j
    kept q j r = elim (at_number r.number) [
      | inl t ↦ record {
        number = r.number;
        key = r.key;
        owned = ap (λ (v : ℕ × List ℕ). v.0) t.1 ∙ ap (λ v. (star_at old v).0) (sym t.0) ∙ r.owned;
        listed = subst (λ (v : List ℕ). IsIn j v) (sym (ap (λ (v : ℕ × List ℕ). v.1) t.1))
            (snoc_old (star_at old n).1 i j (subst (λ v. IsIn j (star_at old v).1) t.0 r.listed));
      }
      | inr t ↦ record {
        number = r.number;
        key = r.key;
        owned = ap (λ (v : ℕ × List ℕ). v.0) t.1 ∙ r.owned;
        listed = subst (λ (v : List ℕ). IsIn j v) (sym (ap (λ (v : ℕ × List ℕ). v.1) t.1)) r.listed;
      }
    ]

    here : IsStarredBy keys new p i
    here = record {
      number = n;
      key = k;
      owned = ap (λ v. (star_at v n).0) e ∙ ap (λ (v : ℕ × List ℕ). v.0) (set_one old n s (a.within (p, n) k))
          ∙ a.owned (p, n) k;
      listed = subst (λ (v : List ℕ). IsIn i v)
          (sym (ap (λ v. (star_at v n).1) e ∙ ap (λ (v : ℕ × List ℕ). v.1) (set_one old n s (a.within (p, n) k))))
          (snoc_new (star_at old n).1 i);
    }

-- the star beside a key that was found
pub gains_found : (keys : List (ℕ × ℕ)) (old new : Stars) (p i at : ℕ) (k : ℕ × ℕ) (s : ℕ × List ℕ) →
    AreKeyed keys old →
    (at < length keys) × (slice_index (vertices keys) at ≡ p) → k ≡ slice_index_or keys at k → s ≡ (star_at old k.1) →
    new ≡ slice_set old k.1 (s.0, s.1 ++ i ∷ []) → GainsPlaces keys (λ q j. (p ≡ q) × (i ≡ j)) old new
gains_found keys old new p i at k s a f e q r =
    let t = at_key keys at k f.0 e in
    gains_one keys old new p i k.1 a (subst (λ v. IsIn (v, k.1) keys) (sym t.1 ∙ f.1) t.0)
    (r ∙ ap (λ (v : ℕ × List ℕ). slice_set old k.1 (v.0, v.1 ++ i ∷ [])) q)

-- nothing is gained
pub gains_none : (keys : List (ℕ × ℕ)) (R : ℕ → ℕ → Type 0) (stars : Stars) → AreKeyed keys stars →
    ((p i : ℕ) → R p i → ⊥) → GainsPlaces keys R stars stars
gains_none keys R stars a f = record {
  keyed = a;
  only = λ p i r. inl r;
  kept = λ p i r. r;
  came =
      λ p i r. absurd (f p i r);
}

-- one gain after another
pub gains_then : (keys : List (ℕ × ℕ)) (R S T : ℕ → ℕ → Type 0) (old mid new : Stars) → ((p i : ℕ) → R p i → T p i) →
    ((p i : ℕ) → S p i → T p i) →
    ((p i : ℕ) → T p i → R p i ⊎ S p i) → GainsPlaces keys R old mid → GainsPlaces keys S mid new →
    GainsPlaces keys T old new
gains_then keys R S T old mid new f g h a b = record {
  keyed = b.keyed;
  only = λ p i r. elim (b.only p i r) [
    | inl m ↦ elim (a.only p i m) [ inl o ↦ inl o | inr t ↦ inr (f p i t) ]
    | inr t ↦
        inr (g p i t)
  ];
  kept = λ p i r. b.kept p i (a.kept p i r);
  came = λ p i t. elim (h p i t) [ inl r ↦ b.kept p i (a.came p i r) | inr s ↦ b.came p i s ];
}

-- the same gain, told otherwise
pub gains_same : (keys : List (ℕ × ℕ)) (R T : ℕ → ℕ → Type 0) (old new : Stars) → ((p i : ℕ) → R p i → T p i) →
    ((p i : ℕ) → T p i → R p i) →
    GainsPlaces keys R old new → GainsPlaces keys T old new
gains_same keys R T old new f h a = record {
  keyed = a.keyed;
  only = λ p i r. elim (a.only p i r) [ inl m ↦ inl m | inr t ↦ inr (f p i t) ];
  kept = a.kept;
  came = λ p i t. a.came p i (h p i t);
}

-- ---- the vertices of a cell

-- one of the first n points, which lies in the bucket
abbrev pub FirstHere : ℕ → ℕ → List ℕ → ℕ → ℕ → ℕ → ℕ → Type 0
FirstHere g b ps n i q j = (IsIn q (take n ps) × (lies_in (Some (g, b)) q ≡ true)) × (i ≡ j)

-- of the first points of a cell, none yet, nothing is gained
pub first_none : (g b : ℕ) (keys : List (ℕ × ℕ)) (ps : List ℕ) (i : ℕ) (stars : Stars) → AreKeyed keys stars →
    GainsPlaces keys (FirstHere g b ps 0 i) stars stars
first_none g b keys ps i stars a = gains_none keys (FirstHere g b ps 0 i) stars a
    (λ q j r. each_none (λ x. ⊥) ps q r.0.0)

-- the next one lies in the bucket and its star gains the place
pub first_more : (g b : ℕ) (keys : List (ℕ × ℕ)) (ps : List ℕ) (n i x : ℕ) (old mid new : Stars) → n < length ps →
    x ≡ slice_index_or ps n x →
    bucket_of g x ≡ b → GainsPlaces keys (FirstHere g b ps n i) old mid →
    GainsPlaces keys (λ q j. (x ≡ q) × (i ≡ j)) mid new →
    GainsPlaces keys (FirstHere g b ps (n + 1) i) old new
first_more g b keys ps n i x old mid new h e t u v =
    gains_then keys (FirstHere g b ps n i) (λ q j. (x ≡ q) × (i ≡ j)) (FirstHere g b ps (n + 1) i) old mid new
    (λ q j r. ((pushed_old (take n ps) (take (n + 1) ps) x q more r.0.0, r.0.1), r.1))
    (λ q j r. (
      (
        subst (λ y. IsIn y (take (n + 1) ps)) r.0 (pushed_new (take n ps) (take (n + 1) ps) x more),
        subst (λ y. lies_in (Some (g, b)) y ≡ true) r.0 (same_true (bucket_of g x) b t),
      ),
      r.1,
    ))
    (λ q j r. elim (in_pushed (take n ps) (take (n + 1) ps) x q more r.0.0)
    [ inl m ↦ inl ((m, r.0.1), r.1) | inr m ↦ inr (m, r.1) ])
    u v
  where
    more : take (n + 1) ps ≡ take n ps ++ x ∷ []
    more = take_next ps n x h e

-- or it does not, and nothing more is gained
pub first_not : (g b : ℕ) (keys : List (ℕ × ℕ)) (ps : List ℕ) (n i x : ℕ) (old new : Stars) → n < length ps →
    x ≡ slice_index_or ps n x →
    (bucket_of g x ≡ b → ⊥) → GainsPlaces keys (FirstHere g b ps n i) old new →
    GainsPlaces keys (FirstHere g b ps (n + 1) i) old new
first_not g b keys ps n i x old new h e t u =
    gains_same keys (FirstHere g b ps n i) (FirstHere g b ps (n + 1) i) old new
    (λ q j r. ((pushed_old (take n ps) (take (n + 1) ps) x q more r.0.0, r.0.1), r.1))
    (λ q j r. elim (in_pushed (take n ps) (take (n + 1) ps) x q more r.0.0) [
      | inl m ↦ ((m, r.0.1), r.1)
      | inr m ↦ absurd (t (ap (bucket_of g) m ∙ same_from (bucket_of g q) b r.0.1))
    ])
    u
  where
    more : take (n + 1) ps ≡ take n ps ++ x ∷ []
    more = take_next ps n x h e

-- at the end each vertex of the cell that lies in the bucket has gained it
pub first_all : (g b : ℕ) (keys : List (ℕ × ℕ)) (c : Cell) (ps : List ℕ) (n i : ℕ) (old new : Stars) →
    ps ≡ points_of c → length ps ≤ n →
    GainsPlaces keys (FirstHere g b ps n i) old new → GainsPlaces keys (λ q j. FromCellHere g b c q × (i ≡ j)) old new
first_all g b keys c ps n i old new e h u =
    gains_same keys (FirstHere g b ps n i) (λ q j. FromCellHere g b c q × (i ≡ j)) old new
    (λ q j r. ((subst (IsIn q) all r.0.0, r.0.1), r.1)) (λ q j r. ((subst (IsIn q) (sym all) r.0.0, r.0.1), r.1)) u
  where
    all : take n ps ≡ points_of c
    all = take_all n ps h ∙ e

-- ---- all cells

-- a cell of the list stands at its place
some_at : (cells : List Cell) (n : ℕ) (x d : Cell) → n < length cells → x ≡ slice_index_or cells n d →
    at_slot (map (λ c. Some c) cells) n ≡ Some x
some_at [] n x d h e = absurd (omega arith)
some_at (c ∷ cells) zero x d h e = ap (λ y. Some y) (sym e)
some_at (c ∷ cells) (suc n) x d h e = some_at cells n x d (omega arith) e

-- and what stands at a place is one of the list
at_some : (cells : List Cell) (n : ℕ) (c : Cell) → at_slot (map (λ c. Some c) cells) n ≡ Some c →
    (n < length cells) × IsIn c cells
at_some [] n c e = absurd (cc e)
at_some (d ∷ cells) zero c e = (omega arith, inl (cc e))
at_some (d ∷ cells) (suc n) c e = (let r = at_some cells n c e in ((let h = r.0 in omega (arith, h)), inr r.1))

-- each cell of the list stands at some place
in_at : (cells : List Cell) (c : Cell) → IsIn c cells → (n : ℕ) × (at_slot (map (λ c. Some c) cells) n ≡ Some c)
in_at [] c m = absurd m
in_at (d ∷ cells) c (inl e) = (0, ap (λ y. Some y) e)
in_at (d ∷ cells) c (inr m) = (let r = in_at cells c m in (suc r.0, r.1))

-- an option has one value
one_some : (x y : Cell) (o : Option Cell) → o ≡ Some x → o ≡ Some y → x ≡ y
one_some x y o e f = cc (e, f)

-- of no cell yet nothing stands anywhere
pub all_none : (g b : ℕ) (cells : List Cell) (p i : ℕ) → StandsAtHere g b cells 0 p i → ⊥
all_none g b cells p i r = (let h = r.0 in absurd (omega (arith, h)))

-- the stars gain the place of the next cell
pub all_more : (g b : ℕ) (keys : List (ℕ × ℕ)) (cells : List Cell) (n : ℕ) (x d : Cell) (old mid new : Stars) →
    n < length cells →
    x ≡ slice_index_or cells n d → GainsPlaces keys (StandsAtHere g b cells n) old mid →
    GainsPlaces keys (λ q j. FromCellHere g b x q × (n ≡ j)) mid new →
    GainsPlaces keys (StandsAtHere g b cells (n + 1)) old new
all_more g b keys cells n x d old mid new h e u v =
    gains_then keys (StandsAtHere g b cells n) (λ q j. FromCellHere g b x q × (n ≡ j)) (StandsAtHere g b cells (n + 1))
    old mid new
    (λ q j r. ((let k = r.0 in omega (arith, k)), r.1))
    (λ q j r. (
      (let k = r.1 in omega (arith, k)),
      (x, subst (λ y. at_slot (map (λ c. Some c) cells) y ≡ Some x) r.1 here, r.0),
    ))
    (λ q j r. elim (same_or_not n j) [
      | inl s ↦ inr (
        subst (λ c. FromCellHere g b c q)
            (one_some r.1.0 x (at_slot (map (λ c. Some c) cells) j) r.1.1
            (subst (λ y. at_slot (map (λ c. Some c) cells) y ≡ Some x) s here)) r.1.2,
        s,
      )
      | inr s ↦ inl ((let k = r.0 in omega (arith, k, s)), r.1)
    ])
    u v
  where
    here : at_slot (map (λ c. Some c) cells) n ≡ Some x
    here = some_at cells n x d h e

-- at the end they have gained those of all cells
pub all_all : (g b : ℕ) (keys : List (ℕ × ℕ)) (cells : List Cell) (n : ℕ) (old new : Stars) → length cells ≤ n →
    GainsPlaces keys (StandsAtHere g b cells n) old new →
    GainsPlaces keys (StandsAtHere g b cells (length cells)) old new
all_all g b keys cells n old new h u =
    gains_same keys (StandsAtHere g b cells n) (StandsAtHere g b cells (length cells)) old new
    (λ q j r. ((at_some cells j r.1.0 r.1.1).0, r.1)) (λ q j r. ((let k = r.0 in omega (arith, k, h)), r.1)) u

-- ---- the stars are those of the cells

-- in a list of different cells each stands at one place
differ_at : (cells : List Cell) (i j : ℕ) (c : Cell) → Differ cells → at_slot (map (λ c. Some c) cells) i ≡ Some c →
    at_slot (map (λ c. Some c) cells) j ≡ Some c → i ≡ j
differ_at [] i j c d e f = absurd (cc e)
differ_at (x ∷ cells) zero zero c d e f = refl
differ_at (x ∷ cells) zero (suc j) c d e f = absurd
    (d.0 (subst (λ y. IsIn y cells) (sym (one_some x c (Some x) refl e)) (at_some cells j c f).1))
differ_at (x ∷ cells) (suc i) zero c d e f = absurd
    (d.0 (subst (λ y. IsIn y cells) (sym (one_some x c (Some x) refl f)) (at_some cells i c e).1))
differ_at (x ∷ cells) (suc i) (suc j) c d e f = ap suc (differ_at cells i j c d.1 e f)

-- every vertex that lies in the bucket has a key
pub all_keyed : (g b : ℕ) (cells : List Cell) (l : List ℕ) (keys : List (ℕ × ℕ)) →
    Gathers (FromCellHere g b) cells [] l → AreNumberedTo (length l) l keys →
    (c : Cell) → IsIn c cells → HaveKeys (FromCellHere g b c) keys
all_keyed g b cells l keys s n c i p r =
    beside keys p (subst (IsIn p) (sym (n.vertices_are ∙ take_all (length l) l (omega arith))) (s.all c i p r))
  where
    beside : (keys : List (ℕ × ℕ)) (p : ℕ) → IsIn p (vertices keys) → (n : ℕ) × IsIn (p, n) keys
    beside [] p m = absurd m
    beside (k ∷ keys) p (inl e) = (k.1, inl (ap (λ (v : ℕ). (v, k.1)) e))
    beside (k ∷ keys) p (inr m) = (let r = beside keys p m in (r.0, inr r.1))

-- so the stars are those of the cells
pub are_stars : (g b : ℕ) (cells : List Cell) (l : List ℕ) (keys : List (ℕ × ℕ)) (parts : Parts) (bare stars : Stars) →
    IsStrictlySortedBy cell_cmp cells →
    ((c : Cell) → IsIn c cells → touches g b c ≡ true) → Gathers (FromCellHere g b) cells [] l →
    AreNumberedTo (length l) l keys →
    bare ≡ map (λ p. (p, [])) l → GainsPlaces keys (StandsAtHere g b cells (length cells)) bare stars →
    AreFiled parts → AreKeysOf keys parts →
    AreStars (record { place = Some (g, b); slots = map (λ c. Some c) cells; keys = parts; stars = stars })
are_stars g b cells l keys parts bare stars o t s n e u f h = record {
  order = f;
  names = λ p i r. elim (u.only p i (from_part p i r)) [
    | inl m ↦ absurd (bare_none l keys bare p i n e m)
    | inr q ↦ record { cell = q.1.0; there = q.1.1; has = q.1.2.0; inside = q.1.2.1 }
  ];
  listed = λ p i c q m v. in_part p i (u.came p i ((at_some cells i c q).0, (c, q, (m, v))));
  filled = λ k m. (
      let h = n.each k ((h k).0 m) in
      elim (s.each k.0 (subst (λ v. IsIn v l) h.1 (index_in l k.1 h.0))) [
        | inl i ↦ absurd i
        | inr r ↦ (let a = in_at cells r.0 r.1 in
            (a.0, in_part k.0 a.0 (u.came k.0 a.0 ((at_some cells a.0 r.0 a.1).0, (r.0, a.1, r.2)))))
      ]);
  once = λ i j c p q. differ_at cells i j c (sorted_differ cells o) p q;
  touching = λ i c q. t c (at_some cells i c q).1;
}
  where
    from_part : (p i : ℕ) → IsStarred parts stars p i → IsStarredBy keys stars p i
    from_part p i r = record {
      number = r.number;
      key = (h (p, r.number)).0 r.key;
      owned = r.owned;
      listed = r.listed;
    }

    in_part : (p i : ℕ) → IsStarredBy keys stars p i → IsStarred parts stars p i
    in_part p i r = record {
      number = r.number;
      key = (h (p, r.number)).1 r.key;
      owned = r.owned;
      listed = r.listed;
    }

-- and the cells are these
pub cells_are : (cells : List Cell) (slots : List (Option Cell)) → IsStrictlySortedBy cell_cmp cells →
    slots ≡ map (λ c. Some c) cells → cells_of slots ≡ cells
cells_are cells slots o e =
    same_members (cells_of slots) cells (placed_sorted slots) o
    (λ c m. (let r = in_placed slots c m in (at_some cells r.0 c (subst (λ v. at_slot v r.0 ≡ Some c) e r.1)).1))
    (λ c m. (let r = in_at cells c m in placed_in slots r.0 c (subst (λ v. at_slot v r.0 ≡ Some c) (sym e) r.1)))
