-- What goes and comes in an exchange.
use Rattle.std.specs.Prelude.{◌≡◌, ℕ, zero, suc, ◌+◌, ◌<◌, ◌≤◌, Bool, true, false, List, [], ◌∷◌, ◌++◌, ◌⊎◌, length}
use Rattle.std.specs.Prelude.{slice_index_or, Option, None, Some, MatchOption, MatchBool, not, ◌==◌, IfOk, Result, Ok}
use Rattle.std.specs.Prelude.{Err}
use Rattle.std.specs.List.{zip}
use Rattle.std.proofs.Common.{add-one, refl, sym, ◌∙◌, ap, subst, inl, inr, arith, take, length-append}
use Rattle.list_laws.proofs.Cited.{among_from, among_true, any_from, ascend_more, at_place, below_each, each_more}
use Rattle.list_laws.proofs.Cited.{each_none, each_taken, in_pushed, in_right, last_one, more_one, not_both, pushed_new}
use Rattle.list_laws.proofs.Cited.{pushed_old}
use Rattle.point_order.specs.declared.cell.Cell.{Cell}
use Rattle.point_order.specs.Facets.{points_of}
use Rattle.point_order.specs.Sets.{IsIn, IsAscending}
use Rattle.cell_stars.specs.Places.{Placed, AreStars, IsStarred, cells_of, lies_in, touches_in, at_slot}
use Rattle.cell_stars.specs.Moves.{IsStarFor, AreFreed, IsFreed, AreComing, AreNew, IsComing, StandsYet, IsVacant}
use Rattle.point_order.specs.Sets.{is_among}
use Rattle.bucket_grid.specs.Grids.{bucket_of}
use Rattle.cell_stars.specs.Plans.{AreFor}
use Rattle.point_order.specs.CellOrder.{AreSameCells}
use Rattle.cell_stars.specs.Swaps.{Differ}
use Rattle.cell_stars.specs.Turns.{AreReady}
use Rattle.cell_stars.proofs.Moved.{placed_in}

-- another cell stands at the place
pub another : (slots : List (Option Cell)) (i : ℕ) (c d : Cell) → at_slot slots i ≡ Some c → (c ≡ d → ⊥) →
    at_slot slots i ≡ Some d → ⊥
another slots i c d e n f = n (let q : Some c ≡ Some d = sym e ∙ f in cc q)

-- none stands at a free place
pub no_cell : (slots : List (Option Cell)) (i : ℕ) (d : Cell) → at_slot slots i ≡ None → at_slot slots i ≡ Some d → ⊥
no_cell slots i d e f = let q = sym e ∙ f in absurd (cc q)

-- ---- the place of a cell

-- a cell that touches the bucket has a vertex there
pub touched_vertex : (place : Option (ℕ × ℕ)) (c : Cell) → touches_in place c ≡ true →
    (p : ℕ) × IsIn p (points_of c) × (lies_in place p ≡ true)
touched_vertex None c e = absurd (cc e)
touched_vertex (Some w) c e = any_from (λ p. bucket_of w.0 p == w.1) (points_of c) e

-- the shorter of two stars is one of them
pub shorter_is : {X : Type 0} (f : X → List ℕ) (b : Placed) (c : Cell) (P : Type 0) (o : Option X) (star r : List ℕ) →
    MatchOption o P (λ s. IsStarFor b c (f s)) → IsStarFor b c star →
    MatchOption o (r ≡ star) (λ s. (r ≡ star) ⊎ (r ≡ f s)) → IsStarFor b c r
shorter_is f b c P None star r m s e = subst (IsStarFor b c) (sym e) s
shorter_is f b c P (Some x) star r m s (inl e) = subst (IsStarFor b c) (sym e) s
shorter_is f b c P (Some x) star r m s (inr e) = subst (IsStarFor b c) (sym e) m

-- a vertex that is passed over
pub vertex_passed : {X : Type 0} (f : X → List ℕ) (b : Placed) (c : Cell) (ps : List ℕ) (i x d : ℕ) (o : Option X)
    (r : Bool) → i < length ps → x ≡ slice_index_or ps i d → r ≡ lies_in b.place x → r ≡ false →
    MatchOption o ((p : ℕ) → IsIn p (take i ps) → lies_in b.place p ≡ true → ⊥) (λ s. IsStarFor b c (f s)) →
    MatchOption o ((p : ℕ) → IsIn p (take (i + 1) ps) → lies_in b.place p ≡ true → ⊥) (λ s. IsStarFor b c (f s))
vertex_passed f b c ps i x d None r h e t n m =
    each_more (λ p. lies_in b.place p ≡ true → ⊥) ps i x d h e m (λ q. not_both (lies_in b.place x) q (sym t ∙ n))
vertex_passed f b c ps i x d (Some s) r h e t n m = m

-- a star of one of a cell's vertices in the bucket is one for it
pub star_for : (b : Placed) (c : Cell) (p : ℕ) (star : List ℕ) (r : Bool) → IsIn p (points_of c) →
    r ≡ lies_in b.place p → r ≡ true → ((i : ℕ) →
    (IsIn i star → IsStarred b.keys b.stars p i) × (IsStarred b.keys b.stars p i → IsIn i star)) → IsStarFor b c star
star_for b c p star r m e t f = record { vertex = p; has = m; inside = sym e ∙ t; places = f }

-- what no star has stands nowhere
pub in_no_star : (b : Placed) (slots : List (Option Cell)) (c : Cell) (star : List ℕ) (r : Option ℕ) → slots ≡ b.slots →
    AreStars b → IsStarFor b c star → MatchOption r ((i : ℕ) → IsIn i star → at_slot slots i ≡ Some c →
    ⊥) (λ i. at_slot slots i ≡ Some c) →
    MatchOption r ((i : ℕ) → at_slot b.slots i ≡ Some c → touches_in b.place c ≡ true →
    ⊥) (λ i. at_slot b.slots i ≡ Some c)
in_no_star b slots c star None e a s n = λ i f t. n i ((s.places i).1 (a.listed s.vertex i c f s.has s.inside))
    (ap (λ l. at_slot l i) e ∙ f)
in_no_star b slots c star (Some i) e a s n = ap (λ l. at_slot l i) (sym e) ∙ n

-- a cell no vertex of which lies in the bucket does not touch it
pub untouched : (place : Option (ℕ × ℕ)) (c : Cell) → ((p : ℕ) → IsIn p (points_of c) → lies_in place p ≡ true → ⊥) →
    touches_in place c ≡ true → ⊥
untouched place c f t = (let v = touched_vertex place c t in f v.0 v.1 v.2)

-- a cell stays where its place is not freed
pub stays_is : (b : Placed) (freed : List ℕ) (c : Cell) (i : ℕ) (r : Bool) → AreStars b → at_slot b.slots i ≡ Some c →
    r ≡ is_among i freed → MatchBool (not r) (StandsYet b freed c) (touches_in b.place c ≡ true → (j : ℕ) →
    at_slot b.slots j ≡ Some c → IsIn j freed)
stays_is b freed c i true a e f = λ t j g. subst (λ k. IsIn k freed) (a.once i j c e g) (among_from i freed (sym f))
stays_is b freed c i false a e f = record {
  place = i;
  there = e;
  kept =
      λ m. (let t = among_true i freed m in absurd (cc (f, t)));
}

-- ---- what is freed

-- these places are those of the first n gone cells that touch the bucket
pub record FreedSoFar (b : Placed) (gone : List Cell) (n : ℕ) (freed : List ℕ) : Type 0 where
  pub each : (i : ℕ) → IsIn i freed → IsFreed b gone i
  pub all : (c : Cell) → IsIn c (take n gone) → (i : ℕ) → at_slot b.slots i ≡ Some c → touches_in b.place c ≡ true →
      IsIn i freed

-- of no cell yet none is freed
pub freed_none : (b : Placed) (gone : List Cell) (freed : List ℕ) → freed ≡ [] → FreedSoFar b gone 0 freed
freed_none b gone freed e = record {
  each = λ i m. absurd (subst (IsIn i) e m);
  all =
      each_none (λ c. (i : ℕ) → at_slot b.slots i ≡ Some c → touches_in b.place c ≡ true → IsIn i freed) gone;
}

-- the place of the next cell is freed
pub freed_more : (b : Placed) (gone : List Cell) (n : ℕ) (freed new : List ℕ) (c : Cell) (i : ℕ) → AreStars b →
    n < length gone → c ≡ slice_index_or gone n c → at_slot b.slots i ≡ Some c → new ≡ freed ++ i ∷ [] →
    FreedSoFar b gone n freed → FreedSoFar b gone (n + 1) new
freed_more b gone n freed new c i a h e f p s = record {
  each = λ j m. elim (in_pushed freed new i j p m) [
    | inl k ↦ s.each j k
    | inr q ↦ record {
      cell = c;
      there = ap (at_slot b.slots) (sym q) ∙ f;
      goes = at_place gone n c c h e;
      touches =
          a.touching i c f;
    }
  ];
  all = each_more (λ c. (i : ℕ) → at_slot b.slots i ≡ Some c → touches_in b.place c ≡ true →
      IsIn i new) gone n c c h e (λ d m j g t. pushed_old freed new i j p (s.all d m j g t))
      (λ j g t. subst (λ k. IsIn k new) (a.once i j c f g) (pushed_new freed new i p));
}

-- or the cell stands nowhere, and nothing more is
pub freed_same : (b : Placed) (gone : List Cell) (n : ℕ) (freed : List ℕ) (c : Cell) → n < length gone →
    c ≡ slice_index_or gone n c → ((i : ℕ) → at_slot b.slots i ≡ Some c → touches_in b.place c ≡ true → ⊥) →
    FreedSoFar b gone n freed → FreedSoFar b gone (n + 1) freed
freed_same b gone n freed c h e f s = record {
  each = s.each;
  all = each_more (λ c. (i : ℕ) → at_slot b.slots i ≡ Some c → touches_in b.place c ≡ true →
      IsIn i freed) gone n c c h e s.all (λ j g t. absurd (f j g t));
}

-- at the end all are freed, in whatever order
pub freed_all : (b : Placed) (gone : List Cell) (n : ℕ) (freed new : List ℕ) → length gone ≤ n →
    ((i : ℕ) → (IsIn i new → IsIn i freed) × (IsIn i freed → IsIn i new)) → FreedSoFar b gone n freed →
    AreFreed b gone new
freed_all b gone n freed new h f s = record {
  each = λ i m. s.each i ((f i).0 m);
  all = λ i c e m t. (f i).1 (each_taken (λ c. (i : ℕ) → at_slot b.slots i ≡ Some c → touches_in b.place c ≡ true →
      IsIn i freed) gone n h s.all c m i e t);
}

-- ---- what comes

-- these cells are those of the first n fresh ones that touch the bucket and do not stay
pub record ComingSoFar (b : Placed) (freed : List ℕ) (fresh : List Cell) (n : ℕ) (coming : List Cell) : Type 0 where
  pub each : (c : Cell) → IsIn c coming → IsComing b freed fresh c
  pub all : (c : Cell) → IsIn c (take n fresh) → touches_in b.place c ≡ true → IsIn c coming ⊎ StandsYet b freed c

-- of no cell yet none comes
pub coming_none : (b : Placed) (freed : List ℕ) (fresh coming : List Cell) → coming ≡ [] →
    ComingSoFar b freed fresh 0 coming
coming_none b freed fresh coming e = record {
  each = λ i m. absurd (subst (IsIn i) e m);
  all =
      each_none (λ c. touches_in b.place c ≡ true → IsIn c coming ⊎ StandsYet b freed c) fresh;
}

-- the next one comes
pub coming_more : (b : Placed) (freed : List ℕ) (fresh : List Cell) (n : ℕ) (coming new : List Cell) (c : Cell) →
    n < length fresh → c ≡ slice_index_or fresh n c →
    (touches_in b.place c ≡ true) × ((i : ℕ) → at_slot b.slots i ≡ Some c → IsIn i freed) → new ≡ coming ++ c ∷ [] →
    ComingSoFar b freed fresh n coming → ComingSoFar b freed fresh (n + 1) new
coming_more b freed fresh n coming new c h e f p s = record {
  each = λ d m. elim (in_pushed coming new c d p m) [
    | inl k ↦ s.each d k
    | inr q ↦ subst (IsComing b freed fresh) q (record { comes = at_place fresh n c c h e; touches = f.0; new = f.1 })
  ];
  all = each_more (λ c. touches_in b.place c ≡ true → IsIn c new ⊎ StandsYet b freed c) fresh n c c h e
      (λ d m t. elim (s.all d m t) [ inl k ↦ inl (pushed_old coming new c d p k) | inr k ↦ inr k ])
      (λ t. inl (pushed_new coming new c p));
}

-- or it stays or touches another bucket, and does not
pub coming_same : (b : Placed) (freed : List ℕ) (fresh : List Cell) (n : ℕ) (coming : List Cell) (c : Cell) →
    n < length fresh → c ≡ slice_index_or fresh n c → (touches_in b.place c ≡ true → StandsYet b freed c) →
    ComingSoFar b freed fresh n coming → ComingSoFar b freed fresh (n + 1) coming
coming_same b freed fresh n coming c h e f s = record {
  each = s.each;
  all = each_more (λ c. touches_in b.place c ≡ true → IsIn c coming ⊎ StandsYet b freed c) fresh n c c h e s.all
      (λ t. inr (f t));
}

-- at the end all that come are there, in whatever order
pub coming_all : (b : Placed) (freed : List ℕ) (fresh : List Cell) (n : ℕ) (coming new : List Cell) → length fresh ≤ n →
    AreSameCells coming new → ComingSoFar b freed fresh n coming → AreComing b freed fresh new
coming_all b freed fresh n coming new h f s = record {
  each = λ c m. s.each c (f.1 c m);
  all = λ c m t. elim (each_taken (λ c. touches_in b.place c ≡ true → IsIn c coming ⊎ StandsYet b freed c) fresh n h
      s.all c
      m t) [ inl k ↦ inl (f.0 c k) | inr k ↦ inr k ];
}

-- ---- each once

-- an element is none of those before it
not_before : (l : List Cell) (n : ℕ) (x : Cell) → Differ l → n < length l → x ≡ slice_index_or l n x →
    IsIn x (take n l) → ⊥
not_before [] n x d h e i = absurd (omega arith)
not_before (y ∷ l) zero x d h e i = absurd i
not_before (y ∷ l) (suc n) x d h e (inl q) = d.0
    (subst (λ (z : Cell). IsIn z l) (sym q) (at_place l n x x (omega arith) e))
not_before (y ∷ l) (suc n) x d h e (inr m) = not_before l n x d.1 (omega arith) e m

-- cells that differ, with one more that is none of them, differ
differ_pushed : (l : List Cell) (x : Cell) → Differ l → (IsIn x l → ⊥) → Differ (l ++ x ∷ [])
differ_pushed [] x d n = (λ i. i, tt)
differ_pushed (y ∷ l) x d n = (
  λ i. elim (in_pushed l (l ++ x ∷ []) x y refl i) [ inl k ↦ d.0 k | inr q ↦ n (inl (sym q)) ],
  differ_pushed l x d.1 (λ i. n (inr i)),
)

-- those that come so far are some of the first ones, each once
pub record SingleSoFar (fresh : List Cell) (n : ℕ) (coming : List Cell) : Type 0 where
  pub differ : Differ coming
  pub from : (c : Cell) → IsIn c coming → IsIn c (take n fresh)

-- of no cell yet none comes twice
pub single_none : (fresh coming : List Cell) → coming ≡ [] → SingleSoFar fresh 0 coming
single_none fresh coming e = record { differ = subst Differ (sym e) tt; from = λ c m. absurd (subst (IsIn c) e m) }

-- the next one comes, and was not there
pub single_more : (fresh : List Cell) (n : ℕ) (coming new : List Cell) (x : Cell) → Differ fresh → n < length fresh →
    x ≡ slice_index_or fresh n x → new ≡ coming ++ x ∷ [] → SingleSoFar fresh n coming → SingleSoFar fresh (n + 1) new
single_more fresh n coming new x d h e p s = record {
  differ = subst Differ (sym p) (differ_pushed coming x s.differ (λ i. not_before fresh n x d h e (s.from x i)));
  from = λ c m. rw add-one (elim (in_pushed coming new x c p m) [
    | inl k ↦ more_one fresh n c (s.from c k)
    | inr q ↦ subst (λ (y : Cell). IsIn y (take (suc n) fresh)) q (last_one fresh n x x h e)
  ]);
}

-- or it does not come
pub single_same : (fresh : List Cell) (n : ℕ) (coming : List Cell) → SingleSoFar fresh n coming →
    SingleSoFar fresh (n + 1) coming
single_same fresh n coming s = record { differ = s.differ; from = λ c m. rw add-one (more_one fresh n c (s.from c m)) }

-- what an exchange finds not there is new
pub are_new : (b : Placed) (gone fresh : List Cell) → AreReady b.place gone fresh (cells_of b.slots) → AreNew b fresh
are_new b gone fresh r c m t i e = r.absent c m t (placed_in b.slots i c e)

-- ---- places for what comes

-- of places and cells side by side each pair has one of both
in_zip : (us : List ℕ) (cs : List Cell) (i : ℕ) (c : Cell) → IsIn (i, c) (zip us cs) → IsIn i us × IsIn c cs
in_zip [] cs i c m = absurd m
in_zip (u ∷ us) [] i c m = absurd m
in_zip (u ∷ us) (d ∷ cs) i c (inl e) = (inl (ap (λ x. x.0) e), inl (ap (λ x. x.1) e))
in_zip (u ∷ us) (d ∷ cs) i c (inr m) = (let r = in_zip us cs i c m in (inr r.0, inr r.1))

-- where there are places enough each cell has one
zip_all : (us : List ℕ) (cs : List Cell) (c : Cell) → length cs ≤ length us → IsIn c cs →
    (i : ℕ) × IsIn (i, c) (zip us cs)
zip_all us [] c h m = absurd m
zip_all [] (d ∷ cs) c h m = absurd (omega arith)
zip_all (u ∷ us) (d ∷ cs) c h (inl e) = (u, inl (ap (λ (x : Cell). (u, x)) e))
zip_all (u ∷ us) (d ∷ cs) c h (inr m) = (let r = zip_all us cs c (omega arith) m in (r.0, inr r.1))

-- at a place stands one cell
zip_apart : (us : List ℕ) (cs : List Cell) (i : ℕ) (c d : Cell) → IsAscending us → IsIn (i, c) (zip us cs) →
    IsIn (i, d) (zip us cs) → c ≡ d
zip_apart [] cs i c d a m n = absurd m
zip_apart (u ∷ us) [] i c d a m n = absurd m
zip_apart (u ∷ us) (e ∷ cs) i c d a (inl p) (inl q) = sym (ap (λ x. x.1) p) ∙ ap (λ x. x.1) q
zip_apart (u ∷ us) (e ∷ cs) i c d a (inl p) (inr n) =
    (let b = below_each u us a.0 a.1 i (in_zip us cs i d n).0 in let q = ap (λ x. x.0) p in
    absurd (omega (arith, b, q)))
zip_apart (u ∷ us) (e ∷ cs) i c d a (inr m) (inl q) =
    (let b = below_each u us a.0 a.1 i (in_zip us cs i c m).0 in let p = ap (λ x. x.0) q in
    absurd (omega (arith, b, p)))
zip_apart (u ∷ us) (e ∷ cs) i c d a (inr m) (inr n) = zip_apart us cs i c d a.1 m n

-- and a cell stands at one place
zip_single : (us : List ℕ) (cs : List Cell) (i j : ℕ) (c : Cell) → Differ cs → IsIn (i, c) (zip us cs) →
    IsIn (j, c) (zip us cs) → i ≡ j
zip_single [] cs i j c a m n = absurd m
zip_single (u ∷ us) [] i j c a m n = absurd m
zip_single (u ∷ us) (e ∷ cs) i j c a (inl p) (inl q) = sym (ap (λ x. x.0) p) ∙ ap (λ x. x.0) q
zip_single (u ∷ us) (e ∷ cs) i j c a (inl p) (inr n) =
    absurd (a.0 (subst (λ (d : Cell). IsIn d cs) (sym (ap (λ x. x.1) p)) (in_zip us cs j c n).1))
zip_single (u ∷ us) (e ∷ cs) i j c a (inr m) (inl q) =
    absurd (a.0 (subst (λ (d : Cell). IsIn d cs) (sym (ap (λ x. x.1) q)) (in_zip us cs i c m).1))
zip_single (u ∷ us) (e ∷ cs) i j c a (inr m) (inr n) = zip_single us cs i j c a.1 m n

-- the places and the cells together are what goes and comes
pub are_for : (b : Placed) (slots : List (Option Cell)) (gone fresh coming : List Cell) (freed us : List ℕ)
    (placed : List (ℕ × Cell)) → AreStars b → slots ≡ b.slots → AreFreed b gone freed → Differ coming →
    AreComing b freed fresh coming → IsAscending us → length us ≡ length coming →
    ((i : ℕ) → IsIn i us → IsVacant slots freed i) → placed ≡ zip us coming → AreFor gone fresh freed placed b
are_for b slots gone fresh coming freed us placed a es f o k au n v p = rw p (record {
  there = λ i m. (let r = f.each i m in (r.cell, r.there));
  freed_gone = λ i c m e. (let r = f.each i m in let q : r.cell ≡ c =
      (let t : Some r.cell ≡ Some c = sym r.there ∙ e in cc t) in
      (subst (λ x. IsIn x gone) q r.goes, ap (touches_in b.place) (sym q) ∙ r.touches));
  gone_freed = f.all;
  placed_fresh = λ i c m. (let r = k.each c (in_zip us coming i c m).1 in (r.comes, r.touches));
  fresh_placed = λ c m t. elim (k.all c m t) [
    | inl q ↦ inl (zip_all us coming c (omega (arith, n)) q)
    | inr s ↦ inr (s.place, s.there, s.kept)
  ];
  new = λ i j c m e. (k.each c (in_zip us coming i c m).1).new j e;
  vacant = λ i c d m e. v i (in_zip us coming i c m).0 d (ap (λ l. at_slot l i) es ∙ e);
  apart = λ i c d m q. zip_apart us coming i c d au m q;
  single = λ i j c m q. zip_single us coming i j c o m q;
})

-- ---- places that ascend

-- the last of numbers that ascend is the greatest
pub before_last : (l m : List ℕ) (x n : ℕ) → l ≡ m ++ x ∷ [] → IsAscending l → n ≡ x + 1 → (i : ℕ) → IsIn i l → i < n
before_last l m x n e a f i k = (let t = go m (subst IsAscending e a) i (subst (λ (v : List ℕ). IsIn i v) e k) in
    omega (arith, t, f))
  where
    go : (m : List ℕ) → IsAscending (m ++ x ∷ []) → (i : ℕ) → IsIn i (m ++ x ∷ []) → i ≤ x
    go [] a i (inl e) = omega (arith, e)
    go [] a i (inr k) = absurd k
    go (y ∷ m) a i (inl e) = (let t = below_each y (m ++ x ∷ []) a.0 a.1 x (in_right x m (x ∷ []) (inl refl)) in
        omega (arith, t, e))
    go (y ∷ m) a i (inr k) = go m a.1 i k

-- the number behind the last one, where there is such
pub before_behind : {E : Type 0} (l m : List ℕ) (x : ℕ) (r : Result ℕ E) → l ≡ m ++ x ∷ [] → IsAscending l →
    IfOk r (λ n. n ≡ x + 1) → IfOk r (λ n. (i : ℕ) → IsIn i l → i < n)
before_behind l m x (Ok n) e a f = before_last l m x n e a f
before_behind l m x (Err w) e a f = tt

-- some open places in order, all below the one that is looked at next, no more than are wanted
pub record OpenSoFar (P : ℕ → Type 0) (old list : List ℕ) (count next : ℕ) : Type 0 where
  pub order : IsAscending list
  pub before : (i : ℕ) → IsIn i list → i < next
  pub few : length list ≤ count
  pub vacant : (i : ℕ) → IsIn i list → IsIn i old ⊎ P i

-- the next one is open and is taken
pub open_more : (P : ℕ → Type 0) (old list new : List ℕ) (count next after : ℕ) → length list < count → P next →
    new ≡ list ++ next ∷ [] → after ≡ next + 1 → OpenSoFar P old list count next → OpenSoFar P old new count after
open_more P old list new count next after h e p q s = record {
  order = ascend_more list new next p s.order s.before;
  before = λ i m. elim (in_pushed list new next i p m)
      [ inl k ↦ (let t = s.before i k in omega (arith, t, q)) | inr f ↦ omega (arith, f, q) ];
  few = (let t = ap length p in omega (arith, t, h, length-append list (next ∷ [])));
  vacant = λ i m. elim (in_pushed list new next i p m) [ inl k ↦ s.vacant i k | inr f ↦ inr (subst P f e) ];
}

-- or it is passed over
pub open_same : (P : ℕ → Type 0) (old list : List ℕ) (count next after : ℕ) → after ≡ next + 1 →
    OpenSoFar P old list count next → OpenSoFar P old list count after
open_same P old list count next after q s = record {
  order = s.order;
  before =
      λ i m. (let t = s.before i m in omega (arith, t, q));
  few = s.few;
  vacant = s.vacant;
}

-- with one more that is of the second kind, each is of one kind or the other
pub likely_more : (P Q : ℕ → Type 0) (list new : List ℕ) (x : ℕ) → Q x → new ≡ list ++ x ∷ [] →
    ((i : ℕ) → IsIn i list → P i ⊎ Q i) → (i : ℕ) → IsIn i new → P i ⊎ Q i
likely_more P Q list new x e p f i m = elim (in_pushed list new x i p m) [ inl k ↦ f i k | inr q ↦ inr (subst Q q e) ]

-- what is chosen of freed and of open places is vacant
pub vacant_from : (slots : List (Option Cell)) (freed first list all : List ℕ) →
    ((i : ℕ) → IsIn i first → IsIn i freed ⊎ (at_slot slots i ≡ None)) → ((i : ℕ) → IsIn i list → IsIn i first) →
    ((i : ℕ) → IsIn i all → IsIn i list ⊎ (at_slot slots i ≡ None)) → (i : ℕ) → IsIn i all → IsVacant slots freed i
vacant_from slots freed first list all f g h i m c e = elim (h i m) [
  | inl k ↦ elim (f i (g i k)) [ inl j ↦ j | inr q ↦ absurd (no_cell slots i c q e) ]
  | inr q ↦ absurd (no_cell slots i c q e)
]
