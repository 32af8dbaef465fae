-- Exchanges that were planned, carried out.
use Rattle.std.specs.Prelude.{◌≡◌, ℕ, zero, suc, ◌<◌, Bool, true, false, List, [], ◌∷◌, ◌++◌, ◌⊎◌, length, map, Option}
use Rattle.std.specs.Prelude.{None, Some, slice_index_or, slice_set}
use Rattle.std.proofs.Common.{refl, sym, ◌∙◌, ap, subst, inl, inr, arith, append_assoc, take, ◌+◌, ◌≤◌}
use Rattle.std.proofs.lemmas.List.{get_or-set_same, get_or-set_other, map-append, take_all, take_more}
use Rattle.list_laws.proofs.Cited.{among_from, among_true, len_set, mapped_from, mapped_true, take_next}
use Rattle.point_order.specs.declared.cell.Cell.{Cell}
use Rattle.point_order.specs.Sets.{IsIn, is_among}
use Rattle.cell_stars.specs.Places.{Placed, AreStars, IsStarred, IsMoved, cells_of, part_of, touches_in, star_at}
use Rattle.cell_stars.specs.Places.{swapped_at, at_slot}
use Rattle.cell_stars.specs.Plans.{PlanView, Allows, MakesExchange, AreFor, ArePutInto, AreRewritten, StarsAfter}
use Rattle.cell_stars.specs.Plans.{AreBelow, or_else, set_all, after_plan}
use Rattle.cell_stars.specs.Moves.{IsRewriting, AreKeysAfter, AreAgreed, HasSameCells, HasSameStars}
use Rattle.cell_stars.proofs.KeyLaws.{same_or_not}
use Rattle.cell_stars.proofs.Moved.{moved_is_swapped, placed_in, in_placed, placed_sorted}
use Rattle.cell_stars.proofs.Rewritten.{rewritten_is_moved}
use Rattle.del_laws.proofs.Cited.{same_members}

-- ---- lists with other elements at some places

-- a list with other elements at some places is as long as before
pub len_all : {X : Type 0} (cs : List (ℕ × X)) (l : List X) → length (set_all cs l) ≡ length l
len_all [] l = refl
len_all (c ∷ cs) l = len_all cs (slice_set l c.0 c.1) ∙ len_set l c.0 c.1

-- what is put in two goes is put in one
set_append : {X : Type 0} (a b : List (ℕ × X)) (l : List X) → set_all (a ++ b) l ≡ set_all b (set_all a l)
set_append [] b l = refl
set_append (c ∷ a) b l = set_append a b (slice_set l c.0 c.1)

-- where each number is below n all are
below_all : {X : Type 0} (n : ℕ) (cs : List (ℕ × X)) → ((i : ℕ) (x : X) → IsIn (i, x) cs → i < n) → AreBelow n cs
below_all n [] f = tt
below_all n (c ∷ cs) f = (f c.0 c.1 (inl refl), below_all n cs (λ i x m. f i x (inr m)))

-- and so with two lists of them
below_append : {X : Type 0} (n : ℕ) (a b : List (ℕ × X)) → AreBelow n a → AreBelow n b → AreBelow n (a ++ b)
below_append n [] b p q = q
below_append n (c ∷ a) b p q = (p.0, below_append n a b p.1 q)

-- what stands at a place after: what was put there last, or what stood there
pub look : {X : Type 0} (cs : List (ℕ × X)) (l : List X) (n : ℕ) (d : X) → AreBelow (length l) cs →
    ((x : X) × IsIn (n, x) cs × (slice_index_or (set_all cs l) n d ≡ x))
    ⊎ (((x : X) → IsIn (n, x) cs → ⊥) × (slice_index_or (set_all cs l) n d ≡ slice_index_or l n d))
look [] l n d b = inr (λ x m. m, refl)
look {X} (c ∷ cs) l n d b = elim (look cs (slice_set l c.0 c.1) n d
    (subst (λ k. AreBelow k cs) (sym (len_set l c.0 c.1)) b.1)) [
      | inl r ↦ inl (r.0, inr r.1, r.2)
      | inr r ↦ elim (same_or_not c.0 n) [
        | inl e ↦ inl (
          c.1,
          inl (ap (λ (k : ℕ). (k, c.1)) e),
          r.1 ∙ ap (λ k. slice_index_or (slice_set l c.0 c.1) k d) (sym e) ∙ get_or-set_same l c.0 c.1 d b.0,
        )
        | inr e ↦ inr (
          λ x m. elim m [ inl q ↦ e (ap (λ y. y.0) q) | inr k ↦ r.0 x k ],
          r.1 ∙ get_or-set_other l c.0 n c.1 d (λ q. e (sym q)),
        )
      ]
    ]

-- a place with a cell is one of the list
at_within : (l : List (Option Cell)) (i : ℕ) (c : Cell) → at_slot l i ≡ Some c → i < length l
at_within [] i c e = absurd (cc e)
at_within (x ∷ l) zero c e = omega arith
at_within (x ∷ l) (suc i) c e = (let h = at_within l i c e in omega (arith, h))

-- ---- the places

-- a place without a cell
abbrev emptied : ℕ → ℕ × Option Cell
emptied i = (i, None)

-- the freed places, each without a cell
abbrev pub freeing : List ℕ → List (ℕ × Option Cell)
freeing freed = map (λ i. (i, None)) freed

-- places with the cells that come
abbrev pub putting : List (ℕ × Cell) → List (ℕ × Option Cell)
putting placed = map (λ m. (m.0, Some m.1)) placed

-- an option has one value
one_cell : (c d : Cell) → ◌≡◌ {A = Option Cell} (Some c) (Some d) → c ≡ d
one_cell c d e = cc e

-- what is freed is one of the places, and has no cell
freeing_from : (freed : List ℕ) (i : ℕ) (x : Option Cell) → IsIn (i, x) (freeing freed) → IsIn i freed × (x ≡ None)
freeing_from freed i x m = (let r = mapped_from emptied (i, x) freed m in
    (subst (λ (k : ℕ). IsIn k freed) (ap (λ y. y.0) r.2) r.1, sym (ap (λ y. y.1) r.2)))

-- what is put is one of the cells, at its place
putting_from : (placed : List (ℕ × Cell)) (i : ℕ) (x : Option Cell) → IsIn (i, x) (putting placed) →
    (c : Cell) × IsIn (i, c) placed × (x ≡ Some c)
putting_from placed i x m = (let r = mapped_from (λ (m : ℕ × Cell). (m.0, Some m.1)) (i, x) placed m in
    (r.0.1, subst (λ (k : ℕ). IsIn (k, r.0.1) placed) (ap (λ y. y.0) r.2) r.1, sym (ap (λ y. y.1) r.2)))

-- with these put into a list that is long enough, the cells stand as they should after the exchange
pub are_put : (gone fresh : List Cell) (freed : List ℕ) (placed : List (ℕ × Cell)) (b : Placed)
    (grown : List (Option Cell)) → AreFor gone fresh freed placed b → HasSameCells b.slots grown →
    ((i : ℕ) (c : Cell) → IsIn (i, c) placed → i < length grown) →
    AreBelow (length grown) (freeing freed ++ putting placed)
    × ArePutInto freed placed b.slots (set_all (freeing freed ++ putting placed) grown)
are_put gone fresh freed placed b grown f s h = (
  below_append (length grown) (freeing freed) (putting placed) frees puts,
  rw (set_append (freeing freed) (putting placed) grown) (record { put = put; kept = kept; only = only }),
)
  where
    frees : AreBelow (length grown) (freeing freed)
    frees = below_all (length grown) (freeing freed)
        (λ i x m. (let r = freeing_from freed i x m in let t = f.there i r.0 in at_within grown i t.0 (s i ∙ t.1)))

    puts : AreBelow (length grown) (putting placed)
    puts = below_all (length grown) (putting placed) (λ i x m. (let r = putting_from placed i x m in h i r.0 r.1))

    mid : List (Option Cell)
    mid = set_all (freeing freed) grown

    puts_mid : AreBelow (length mid) (putting placed)
    puts_mid = subst (λ n. AreBelow n (putting placed)) (sym (len_all (freeing freed) grown)) puts

    put : (i : ℕ) (c : Cell) → IsIn (i, c) placed → at_slot (set_all (putting placed) mid) i ≡ Some c
    put i c m = elim (look (putting placed) mid i None puts_mid) [
      | inl r ↦ (let t = putting_from placed i r.0 r.1 in r.2 ∙ t.2 ∙ ap Some (f.apart i t.0 c t.1 m))
      | inr r ↦ absurd (r.0 (Some c) (mapped_true (λ (m : ℕ × Cell). (m.0, Some m.1)) (i, c) placed m))
    ]

    kept : (i : ℕ) (c : Cell) → at_slot b.slots i ≡ Some c → (IsIn i freed → ⊥) →
        at_slot (set_all (putting placed) mid) i ≡ Some c
    kept i c e n = elim (look (putting placed) mid i None puts_mid) [
      | inl r ↦ (let t = putting_from placed i r.0 r.1 in absurd (n (f.vacant i t.0 c t.1 e)))
      | inr r ↦ elim (look (freeing freed) grown i None frees) [
        | inl q ↦ absurd (n (freeing_from freed i q.0 q.1).0)
        | inr q ↦ r.1 ∙ q.1 ∙ s i ∙ e
      ]
    ]

    only : (i : ℕ) (c : Cell) → at_slot (set_all (putting placed) mid) i ≡ Some c →
        IsIn (i, c) placed ⊎ ((at_slot b.slots i ≡ Some c) × (IsIn i freed → ⊥))
    only i c e = elim (look (putting placed) mid i None puts_mid) [
      | inl r ↦ (let t = putting_from placed i r.0 r.1 in
          inl (subst (λ (x : Cell). IsIn (i, x) placed) (one_cell t.0 c (sym t.2 ∙ sym r.2 ∙ e)) t.1))
      | inr r ↦ elim (look (freeing freed) grown i None frees) [
        | inl q ↦ (let t = freeing_from freed i q.0 q.1 in let u = sym t.1 ∙ sym q.2 ∙ sym r.1 ∙ e in absurd (cc u))
        | inr q ↦ inr (sym (s i) ∙ sym q.1 ∙ sym r.1 ∙ e, λ m. q.0 None (mapped_true emptied i freed m))
      ]
    ]

-- ---- the stars

-- what was written agrees
pub agreed : (b : Placed) (freed : List ℕ) (placed : List (ℕ × Cell)) (writes : List (ℕ × (ℕ × List ℕ))) →
    IsRewriting b freed placed writes → AreAgreed writes
agreed b freed placed writes r n m p s t i j = (
  r.numbered.single n m p (r.after.each n (p, s) i) (r.after.each m (p, t) j),
  λ x k. (r.after.places m x (p, t) j).1 ((r.after.places n x (p, s) i).0 k),
)

-- with the written stars put into a list that is long enough, the stars are those after the exchange
pub are_rewritten : (gone fresh : List Cell) (freed : List ℕ) (placed : List (ℕ × Cell)) (b : Placed)
    (writes : List (ℕ × (ℕ × List ℕ))) (keys : List (List (ℕ × ℕ))) (more : List (ℕ × List ℕ)) → AreStars b →
    AreFor gone fresh freed placed b → IsRewriting b freed placed writes → AreKeysAfter b.keys writes keys →
    HasSameStars b.stars more → AreBelow (length more) writes → AreRewritten freed placed b keys (set_all writes more)
are_rewritten gone fresh freed placed b writes keys more a f r k s h =
    record { order = k.order; starred = λ p i. (there p i, back p i); filled = filled }
  where
    new : List (ℕ × List ℕ)
    new = set_all writes more

    -- a vertex that is not touched has no star that is written
    not_written : (p : ℕ) → (IsIn p r.vertices → ⊥) → (m : ℕ) (t : List ℕ) → IsIn (m, (p, t)) writes → ⊥
    not_written p n m t i = n (r.numbered.each m p (r.after.each m (p, t) i))

    -- and keeps all of its places
    untouched : (p i : ℕ) → (IsIn p r.vertices → ⊥) → IsStarred b.keys b.stars p i → IsIn i freed → ⊥
    untouched p i n q m = (let t = a.names p i q in n (r.touched.gone i p t.cell m t.there t.has t.inside))

    there : (p i : ℕ) → IsStarred keys new p i → StarsAfter freed placed b p i
    there p i q = elim (look writes more q.number (0, []) h) [
      | inl w ↦ (
          let e : w.0.0 ≡ p = ap (λ y. y.0) (sym w.2) ∙ q.owned in
          let m = (r.after.places q.number i w.0 w.1).0 (subst (λ (y : ℕ × List ℕ). IsIn i y.1) w.2 q.listed) in
          subst (λ v. StarsAfter freed placed b v i) e m)
      | inr w ↦ elim (k.from p q.number q.key) [
        | inl x ↦ absurd (w.0 (p, x.places) x.listed)
        | inr x ↦ (
            let same : star_at more q.number ≡ star_at b.stars q.number =
            s.back q.number i (subst (λ (y : ℕ × List ℕ). IsIn i y.1) w.1 q.listed) in
            let old : IsStarred b.keys b.stars p i =
            record {
              number = q.number;
              key = x.0;
              owned = ap (λ y. y.0) (sym (w.1 ∙ same)) ∙ q.owned;
              listed =
                  subst (λ (y : ℕ × List ℕ). IsIn i y.1) (w.1 ∙ same) q.listed;
            } in
            inl (
              old,
              untouched p i (λ m. (let t = r.numbered.all p m in let u = r.after.all t.0 p t.1 in
                  x.1 t.0 u.0 u.1)) old,
            ))
      ]
    ]

    -- the star of a touched vertex is written
    touched : (p i : ℕ) → IsIn p r.vertices → StarsAfter freed placed b p i → IsStarred keys new p i
    touched p i m t =
        let n = r.numbered.all p m in
        let w = r.after.all n.0 p n.1 in
        let j = (r.after.places n.0 i (p, w.0) w.1).1 t in
        elim (look writes more n.0 (0, []) h) [
          | inl x ↦ (
              let e : x.0.0 ≡ p = r.numbered.apart n.0 x.0.0 p (r.after.each n.0 x.0 x.1) n.1 in
              record {
                number = n.0;
                key = k.written p n.0 (record { places = w.0; listed = w.1; place = i; filled = j });
                owned = ap (λ y. y.0) x.2 ∙ e;
                listed = subst (λ (y : ℕ × List ℕ). IsIn i y.1) (sym x.2)
                    ((r.after.places n.0 i x.0 x.1).1 (subst (λ v. StarsAfter freed placed b v i) (sym e) t));
              })
          | inr x ↦ absurd (x.0 (p, w.0) w.1)
        ]

    -- another keeps its own
    other : (p i : ℕ) → (IsIn p r.vertices → ⊥) → IsStarred b.keys b.stars p i → IsStarred keys new p i
    other p i n q = elim (look writes more q.number (0, []) h) [
      | inl x ↦ absurd (n (
          let v = r.numbered.each q.number x.0.0 (r.after.each q.number x.0 x.1) in
          let e : p ≡ x.0.0 = r.numbered.vacant q.number x.0.0 p i (r.after.each q.number x.0 x.1) q.owned q.listed in
          subst (λ (u : ℕ). IsIn u r.vertices) (sym e) v))
      | inr x ↦ (
          let same : star_at new q.number ≡ star_at b.stars q.number = x.1 ∙ s.there q.number i q.listed in
          record {
            number = q.number;
            key = k.kept p q.number q.key (not_written p n);
            owned = ap (λ y. y.0) same ∙ q.owned;
            listed = subst (λ (y : ℕ × List ℕ). IsIn i y.1) (sym same) q.listed;
          })
    ]

    in_or_not : (p : ℕ) → IsIn p r.vertices ⊎ (IsIn p r.vertices → ⊥)
    in_or_not p = by (is_among p r.vertices) refl
      where
        by : (t : Bool) → is_among p r.vertices ≡ t → IsIn p r.vertices ⊎ (IsIn p r.vertices → ⊥)
        by true e = inl (among_from p r.vertices e)
        by false e = inr (λ m. (let t = among_true p r.vertices m in absurd (cc (e, t))))

    back : (p i : ℕ) → StarsAfter freed placed b p i → IsStarred keys new p i
    back p i t = elim (in_or_not p) [
      | inl m ↦ touched p i m t
      | inr n ↦ elim t [
        | inl q ↦ other p i n q.0
        | inr q ↦ absurd (n (r.touched.fresh i p q.cell q.put q.has q.inside))
      ]
    ]

    filled : (x : ℕ × ℕ) → IsIn x (part_of keys x.0) → (i : ℕ) × IsStarred keys new x.0 i
    filled x m = elim (k.from x.0 x.1 m) [
      | inl w ↦ (w.place, back x.0 w.place ((r.after.places x.1 w.place (x.0, w.places) w.listed).0 w.filled))
      | inr o ↦ elim (in_or_not x.0) [
        | inl j ↦ (let t = r.numbered.all x.0 j in let u = r.after.all t.0 x.0 t.1 in absurd (o.1 t.0 u.0 u.1))
        | inr n ↦ (let q = a.filled x o.0 in (q.0, other x.0 q.0 n q.1))
      ]
    ]

-- ---- the plan

-- the cells after an exchange in a bucket that may be new
pub moved_at : (gone fresh : List Cell) (old new : Placed) → IsMoved gone fresh old new →
    cells_of new.slots ≡ swapped_at old.place gone fresh (cells_of old.slots)
moved_at gone fresh old new m = by old.place refl
  where
    none : old.place ≡ None → (c : Cell) → touches_in old.place c ≡ true → ⊥
    none e c t = (let u = ap (λ o. touches_in o c) (sym e) ∙ t in absurd (cc u))

    by : (o : Option (ℕ × ℕ)) → old.place ≡ o → cells_of new.slots ≡ swapped_at o gone fresh (cells_of old.slots)
    by (Some w) e = moved_is_swapped w gone fresh old new e m
    by None e =
        same_members (cells_of new.slots) (cells_of old.slots) (placed_sorted new.slots) (placed_sorted old.slots)
        (λ c k. (let t = in_placed new.slots c k in
        elim (m.only t.0 c t.1) [ inl f ↦ absurd (none e c f.1) | inr o ↦ placed_in old.slots t.0 c o.0 ]))
        (λ c k. (let t = in_placed old.slots c k in placed_in new.slots t.0 c (m.stays t.0 c t.1 (λ i q. none e c q))))

-- so what stands at some places then, and what some stars are, is a plan for the exchange
pub is_plan : (gone fresh : List Cell) (b : Placed) (p : PlanView) (freed : List ℕ) (placed : List (ℕ × Cell)) →
    AreStars b → AreFor gone fresh freed placed b → IsRewriting b freed placed p.stars →
    AreKeysAfter b.keys p.stars (set_all p.keys (or_else p.parts b.keys)) →
    AreBelow (length (or_else p.parts b.keys)) p.keys →
    HasSameCells b.slots (or_else p.grown b.slots) →
    ((i : ℕ) (c : Cell) → IsIn (i, c) placed → i < length (or_else p.grown b.slots)) →
    p.slots ≡ freeing freed ++ putting placed →
    HasSameStars b.stars (or_else p.more b.stars) →
    ((n : ℕ) (s : ℕ × List ℕ) → IsIn (n, s) p.stars → n < length (or_else p.more b.stars)) →
    MakesExchange gone fresh b p
is_plan gone fresh b p freed placed a f r k o s h e t g =
    let u = are_put gone fresh freed placed b (or_else p.grown b.slots) f s h in
    let below = below_all (length (or_else p.more b.stars)) p.stars g in
    let v = are_rewritten gone fresh freed placed b p.stars (set_all p.keys (or_else p.parts b.keys))
    (or_else p.more b.stars) a f r k t below in
    let m = rewritten_is_moved gone fresh freed placed b (after_plan p b) refl a f
    (subst (λ cs. ArePutInto freed placed b.slots (set_all cs (or_else p.grown b.slots))) (sym e) u.1) v in
    record {
      allows = record {
        slots = subst (λ cs. AreBelow (length (or_else p.grown b.slots)) cs) (sym e) u.0;
        stars = below;
        keys = o;
        after = m.0;
      };
      cells = moved_at gone fresh b (after_plan p b) m.1;
    }

-- ---- longer lists

-- a list of stars has the same stars as itself
pub stars_same : (l : List (ℕ × List ℕ)) → HasSameStars l l
stars_same l = record { there = λ n i m. refl; back = λ n i m. refl }

-- and with an empty one behind it
pub stars_more : (old l new : List (ℕ × List ℕ)) (s : ℕ × List ℕ) → s.1 ≡ [] → new ≡ l ++ s ∷ [] → HasSameStars old l →
    HasSameStars old new
stars_more old l new s e q h = rw q (record {
  there = λ n i m. there l n i (subst (λ (y : ℕ × List ℕ). IsIn i y.1) (sym (h.there n i m)) m) ∙ h.there n i m;
  back = λ n i m. (let t = back l n i m in t ∙ h.back n i (subst (λ (y : ℕ × List ℕ). IsIn i y.1) t m));
})
  where
    there : (l : List (ℕ × List ℕ)) (n i : ℕ) → IsIn i (star_at l n).1 → star_at (l ++ s ∷ []) n ≡ star_at l n
    there [] n i m = absurd m
    there (x ∷ l) zero i m = refl
    there (x ∷ l) (suc n) i m = there l n i m

    back : (l : List (ℕ × List ℕ)) (n i : ℕ) → IsIn i (star_at (l ++ s ∷ []) n).1 →
        star_at (l ++ s ∷ []) n ≡ star_at l n
    back [] zero i m = absurd (subst (λ (k : List ℕ). IsIn i k) e m)
    back [] (suc n) i m = refl
    back (x ∷ l) zero i m = refl
    back (x ∷ l) (suc n) i m = back l n i m

-- ---- lists that are made element by element

-- one element more is made and put last
made_next : {X Y : Type 0} (f : X → Y) (l : List X) (n : ℕ) (x : X) (front list new : List Y) →
    take (n + 1) l ≡ take n l ++ x ∷ [] → new ≡ list ++ f x ∷ [] → list ≡ front ++ map f (take n l) →
    new ≡ front ++ map f (take (n + 1) l)
made_next f l n x front list new t e i =
    e ∙ ap (λ v. v ++ f x ∷ []) i ∙ append_assoc front (map f (take n l)) (f x ∷ [])
    ∙ ap (λ v. front ++ v) (sym (map-append f (take n l) (x ∷ [])) ∙ ap (map f) (sym t))

-- one more place is freed
pub freeing_more : (l : List ℕ) (n : ℕ) (list new : List (ℕ × Option Cell)) → n < length l →
    new ≡ list ++ (slice_index_or l n 0, None) ∷ [] → list ≡ freeing (take n l) → new ≡ freeing (take (n + 1) l)
freeing_more l n list new h e i = made_next emptied l n (slice_index_or l n 0) [] list new (take_more l n 0 h) e i

-- one more cell is put
pub putting_more : (l : List (ℕ × Cell)) (n : ℕ) (x : ℕ × Cell) (front list new : List (ℕ × Option Cell)) →
    n < length l → x ≡ slice_index_or l n x → new ≡ list ++ (x.0, Some x.1) ∷ [] → list ≡ front ++ putting (take n l) →
    new ≡ front ++ putting (take (n + 1) l)
putting_more l n x front list new h s e i = made_next (λ (m : ℕ × Cell). (m.0, Some m.1)) l n x front list new
    (take_next l n x h s) e i

-- all are
pub changes_are : (freed us : List ℕ) (placed ps : List (ℕ × Cell)) (n m : ℕ) (list new : List (ℕ × Option Cell)) →
    us ≡ freed → ps ≡ placed → length us ≤ n → length ps ≤ m → list ≡ freeing (take n us) →
    new ≡ list ++ putting (take m ps) → new ≡ freeing freed ++ putting placed
changes_are freed us placed ps n m list new e f h k i j =
    j ∙ ap (λ (v : List (ℕ × Option Cell)). v ++ putting (take m ps)) (i ∙ ap freeing (take_all n us h ∙ e))
    ∙ ap (λ (v : List (ℕ × Cell)). freeing freed ++ putting v) (take_all m ps k ∙ f)

-- one more star is copied
-- one more open place is put at the end
pub slots_more : (old l new : List (Option Cell)) (s : Option Cell) → s ≡ None → new ≡ l ++ s ∷ [] →
    HasSameCells old l → HasSameCells old new
slots_more old l new s e q h i = ap (λ v. at_slot v i) (q ∙ ap (λ x. l ++ x ∷ []) e) ∙ there l i ∙ h i
  where
    there : (l : List (Option Cell)) (i : ℕ) → at_slot (l ++ None ∷ []) i ≡ at_slot l i
    there [] zero = refl
    there [] (suc i) = refl
    there (x ∷ l) zero = refl
    there (x ∷ l) (suc i) = there l i

-- one element more is copied
pub copied_more : {X : Type 0} (l : List X) (n : ℕ) (x y : X) (list new : List X) → n < length l →
    x ≡ slice_index_or l n x → new ≡ list ++ y ∷ [] → y ≡ x → list ≡ take n l → new ≡ take (n + 1) l
copied_more l n x y list new h s e q i = e ∙ ap (λ v. v ++ y ∷ []) i ∙ ap (λ v. take n l ++ v ∷ []) q
    ∙ sym (take_next l n x h s)

-- a bucket with the same lists is the same
pub same_bucket : (p : Option (ℕ × ℕ)) (s s' : List (Option Cell)) (k k' : List (List (ℕ × ℕ)))
    (t t' : List (ℕ × List ℕ)) →
    s ≡ s' → k ≡ k' → t ≡ t' → ◌≡◌ {A = Placed} (record { place = p; slots = s; keys = k; stars = t })
    (record { place = p; slots = s'; keys = k'; stars = t' })
same_bucket p s s' k k' t t' e f g = rw (e, f, g)

-- a plan and a bucket that are the same
pub allows_same : (p q : PlanView) (b d : Placed) → p ≡ q → b ≡ d → Allows q d → Allows p b
allows_same p q b d e f a = subst (λ x. Allows x b) (sym e) (subst (λ y. Allows q y) (sym f) a)
