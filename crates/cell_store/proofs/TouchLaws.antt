-- What an edit touches: what it leaves alone, that the buckets in hand show it, and edits side by side.
use Rattle.std.specs.Prelude.{◌≡◌, ◌≢◌, ◌⊎◌, ◌↔◌, ℕ, zero, suc, ◌+◌, Bool, true, false, cond, not, ◌==◌, List, [], ◌∷◌}
use Rattle.std.specs.Prelude.{◌++◌, Option, None, Some, IsSome, is_some}
use Rattle.std.specs.List.{filter}
use Rattle.std.specs.Option.{option_map}
use Rattle.std.proofs.lemmas.List.Kept.{IsStrictlySortedBy-filter}
use Rattle.std.proofs.Common.{refl, sym, ◌∙◌, ap, subst, inl, inr, arith, ne_eqb}
use Rattle.std.proofs.lemmas.Bool.{eqb-true}
use Rattle.list_laws.proofs.Cited.{among_from, among_true, any_from, false_if, filtered_from, filtered_true, is_there}
use Rattle.list_laws.proofs.Cited.{not_from, not_true, same_test, some_mapped, some_of}
use Rattle.point_order.specs.declared.cell.Cell.{Cell}
use Rattle.point_order.specs.declared.cell.Cell.TheVariants.{Full, Open}
use Rattle.point_order.specs.declared.cell.Facet.{Facet}
use Rattle.point_order.specs.CellOrder.{cell_cmp}
use Rattle.point_order.specs.Coordinates.{IsKey}
use Rattle.point_order.specs.Complex.{complex}
use Rattle.point_order.specs.Facets.{points_of}
use Rattle.point_order.specs.Sets.{IsIn, IsAscending, is_among, ascending, with_point, without_point}
use Rattle.point_order.specs.Solid.{is_solid}
use Rattle.point_order.proofs.Cited.{ascending_with, cell_in_or_not, in_ascending_from, in_with_old}
use Rattle.edit_history.specs.declared.history.Edit.{Edit}
use Rattle.edit_history.specs.declared.history.Edit.TheVariants.{Add, Take, Move}
use Rattle.edit_history.specs.declared.history.Reply.{Reply}
use Rattle.edit_history.specs.declared.history.Reply.TheVariants.{Inserted, Duplicate, Removed, Missing, Flat, Moved}
use Rattle.edit_history.specs.declared.history.Reply.TheVariants.{Occupied}
use Rattle.edit_history.specs.Edits.{edit_points, moved_to, point_of, reply_to, arrived, changed, after}
use Rattle.edit_history.specs.Histories.{replay}
use Rattle.edit_history.proofs.Cited.{inserts, leaves_set, replay_more}
use Rattle.del_laws.specs.Listed.{IsListedOpen}
use Rattle.del_laws.proofs.Cited.{complex_is_sorted, same_members as same_cell_members, listed_inside, listed_is_cell}
use Rattle.del_laws.proofs.Cited.{listed_mate}
use Rattle.hole_laws.specs.Commuting.{Reaches}
use Rattle.hole_laws.specs.Edits.{IsSet, IsSolidSet, IsNew, IsMate, IsRimOf, GoesFrom, StaysFrom}
use Rattle.hole_laws.specs.Laws.{IsHeldPart, IsReached}
use Rattle.hole_laws.specs.Lists.{Goes, AreJoined}
use Rattle.hole_laws.proofs.Cited.{cells_after as insertion_cells, changes_reached, edits_commute, found_from_held}
use Rattle.hole_laws.proofs.Cited.{goes_in_conflict, rest_set, solid_near, some_rim, stays_solid}
use Rattle.bucket_grid.specs.Grids.{bucket_of}
use Rattle.cell_store.specs.Buckets.{BucketContent, InHand, bucket_at}
use Rattle.cell_store.specs.Swaps.{touches, without_cells, is_cell_among}
use Rattle.cell_store.specs.Shares.{IsSight, Shows, cells_share, points_on}
use Rattle.cell_store.specs.Changes.{NoneTouches}
use Rattle.cell_changes.specs.Changes.{IsChange}
use Rattle.cell_store.specs.Touches.{HoldTouched, IsTouched, ShareOutsideTouch, ReachFromHeld, CommitsCommute}
use Rattle.cell_stars.proofs.Cited.{among_from as cell_from, among_true as cell_among, swapped_none}
use Rattle.cell_store.proofs.HandLaws.{held_point}
use Rattle.cell_store.proofs.NextLaws.{cells_after, filter_with, filter_with_else, mapped_some, points_stay}
use Rattle.cell_store.proofs.NextLaws.{entries_stay}
use Rattle.cell_store.proofs.ShareLaws.{touched, facet_inside, facet_nonempty, solid_set}

-- ---- what an edit leaves alone

-- the cells of s that are none of t
pub left_out : (s t : List Cell) (c : Cell) → IsIn c (without_cells t s) → IsIn c s × (IsIn c t → ⊥)
left_out s t c m =
    let r = filtered_from (λ c. not (is_cell_among c t)) s c m in
    (r.0, λ i. (let u = cell_among c t i in let v = not_from (is_cell_among c t) r.1 in cc (u, v)))

-- a cell of s that is none of t is left out
pub all_out : (s t : List Cell) (c : Cell) → IsIn c s → (IsIn c t → ⊥) → IsIn c (without_cells t s)
all_out s t c m n = filtered_true (λ c. not (is_cell_among c t)) s c m
    (not_true (is_cell_among c t) (false_if (is_cell_among c t) (λ u. n (cell_from c t u))))

-- the cells of each that are none of the other are the change from s to t
is_change : (s t : List Cell) → IsChange s t (without_cells t s) (without_cells s t)
is_change s t = record { went = left_out s t; all_gone = all_out s t; came = left_out t s; all_fresh = all_out t s }

-- an edit touches the bucket of its point
pub own_touched : (g : ℕ) (s : List ℕ) (edit : Edit) → IsTouched g s edit (bucket_of g (point_of edit))
own_touched g s (Add p) = record { point = p; reached = inl refl; number = refl }
own_touched g s (Take p) = record { point = p; reached = inl refl; number = refl }
own_touched g s (Move a b) = record { point = a; reached = inl refl; number = refl }

-- and of each of its points
pub points_touched : (g : ℕ) (s : List ℕ) (edit : Edit) (p : ℕ) → IsIn p (edit_points edit) →
    IsTouched g s edit (bucket_of g p)
points_touched g s (Add q) p (inl e) = record { point = p; reached = inl (sym e); number = refl }
points_touched g s (Add q) p (inr i) = absurd i
points_touched g s (Take q) p (inl e) = record { point = p; reached = inl (sym e); number = refl }
points_touched g s (Take q) p (inr i) = absurd i
points_touched g s (Move a b) p (inl e) = record { point = p; reached = inl (sym e); number = refl }
points_touched g s (Move a b) p (inr (inl e)) = record { point = p; reached = inr (inl (sym e)); number = refl }
points_touched g s (Move a b) p (inr (inr i)) = absurd i

-- points that pass a test which none of the edit's passes stay
points_outside : (t : ℕ → Bool) (s : List ℕ) (edit : Edit) → IsAscending s →
    ((p : ℕ) → IsIn p (edit_points edit) → t p ≡ false) → filter t s ≡ filter t (after s edit)
points_outside t s (Add p) a f = points_stay t p (reply_to s (Add p)) s a (f p (inl refl))
points_outside t s (Take p) a f = points_stay t p (reply_to s (Take p)) s a (f p (inl refl))
points_outside t s (Move p q) a f = by (reply_to s (Move p q))
  where
    by : (r : Reply) → filter t s ≡ filter t (changed (arrived s (Move p q) r) p r)
    by Moved = filter_with_else t q s a (f q (inr (inl refl)))
        ∙ points_stay t p Moved (with_point q s) (ascending_with q s a) (f p (inl refl))
    by Inserted = points_stay t p Inserted s a (f p (inl refl))
    by Removed = points_stay t p Removed s a (f p (inl refl))
    by Duplicate = refl
    by Missing = refl
    by Flat = refl
    by Occupied = refl

-- one more entry changes the share of no bucket that its edit does not touch
pub share_outside : ShareOutsideTouch
share_outside g b h e i key n = λ k. record {
  points = points k;
  cells = cells k;
  entries =
      sym (entries_stay g b h e here) k;
  place = Some (g, b);
}
  where
    s : List Cell
    s = complex (replay h)

    t : List Cell
    t = complex (after (replay h) e.edit)

    here : (bucket_of g (point_of e.edit) == b) ≡ false
    here = false_if (bucket_of g (point_of e.edit) ==
        b) (λ q. n (subst (IsTouched g (replay h) e.edit) (eqb-true (bucket_of g (point_of e.edit)) b q)
        (own_touched g (replay h) e.edit)))

    elsewhere : (p : ℕ) → IsIn p (edit_points e.edit) → (bucket_of g p == b) ≡ false
    elsewhere p i = false_if (bucket_of g p ==
        b) (λ q. n (subst (IsTouched g (replay h) e.edit) (eqb-true (bucket_of g p) b q)
        (points_touched g (replay h) e.edit p i)))

    points : filter (λ p. bucket_of g p == b) (replay (h ++ e ∷ [])) ≡ filter (λ p. bucket_of g p == b) (replay h)
    points = ap (filter (λ p. bucket_of g p == b)) (replay_more [] h e)
        ∙ sym (points_outside (λ p. bucket_of g p == b) (replay h) e.edit (leaves_set h) elsewhere)

    none : (l : List Cell) → ((q : Cell) → IsIn q l → Goes s t q ⊎ Goes t s q) → NoneTouches g b l
    none l f q m = false_if (touches g b q) (λ k.
        let r = any_from (λ p. bucket_of g p == b) (points_of q) k in
        n (record {
          point = r.0;
          reached = changes_reached (replay h) e.edit i key q (f q m) r.0 r.1;
          number =
              sym (eqb-true (bucket_of g r.0) b r.2);
        }))

    gone : NoneTouches g b (without_cells t s)
    gone = none (without_cells t s) (λ q m. let r = left_out s t q m in inl (record { before = r.0; after = r.1 }))

    fresh : NoneTouches g b (without_cells s t)
    fresh = none (without_cells s t) (λ q m. let r = left_out t s q m in inr (record { before = r.0; after = r.1 }))

    cells : cells_share g b (h ++ e ∷ []) ≡ cells_share g b h
    cells = sym (sym (swapped_none g b (without_cells t s) (without_cells s t) (cells_share g b h) gone fresh)
        ∙ cells_after g b h (h ++ e ∷ []) (without_cells t s) (without_cells s t)
        (subst (λ (v : List ℕ). IsChange s (complex v) (without_cells t s) (without_cells s t))
        (sym (replay_more [] h e)) (is_change s t)))

-- ---- what two sets that a hold shows have in common

-- the bucket of the point is in hand
abbrev IsHeldPoint : InHand → ℕ → Type 0
IsHeldPoint hold p = IsSome (bucket_at hold.places (bucket_of hold.grid p))

-- a point of a cell of the complex is one of the set
inside : (s : List ℕ) → IsSet s → (q : Cell) → IsIn q (complex s) → (e : ℕ) → IsIn e (points_of q) → IsIn e s
inside s i q m e j = listed_inside s q (listed_is_cell s q i.ascending m) e j

-- every listed cell has a point
some_point : (s : List ℕ) → IsSet s → (q : Cell) → IsIn q (complex s) → (e : ℕ) × IsIn e (points_of q)
some_point s i (Full l) m = let r = listed_is_cell s (Full l) i.ascending m in
    (r.a, subst (λ (x : List ℕ). IsIn r.a x) (sym r.is) (inl refl))
some_point s i (Open l) m = let r = listed_is_cell s (Open l) i.ascending m in
    (r.a, subst (λ (x : List ℕ). IsIn r.a x) (sym r.is) (inl refl))

-- a mate for both, of a cell with a point in hand
record HasBothMates (s t : List ℕ) (q : Cell) : Type 0 where
  pub mate : ℕ
  pub here : IsMate s q mate
  pub there : IsMate t q mate

module _ (hold : InHand) (s t : List ℕ) (sh : Shows hold s) (th : Shows hold t) where
  -- a cell with a point in hand is in both
  cell_moves : (q : Cell) (e : ℕ) → IsIn e (points_of q) → IsHeldPoint hold e → IsIn q (complex s) → IsIn q (complex t)
  cell_moves q e has held i =
      let b : ℕ = bucket_of hold.grid e in
      let c = some_of (bucket_at hold.places b) held in
      let here = filtered_true (touches hold.grid b) (complex s) q i (touched hold.grid e b q refl has) in
      (filtered_from (touches hold.grid b) (complex t) q
      (subst (λ (l : List Cell). IsIn q l) (sym (sh.sights b c.0 c.1).cells ∙ (th.sights b c.0 c.1).cells) here)).0

  -- and has a mate that is one for both
  both_mates : (q : Cell) (e : ℕ) → IsIn e (points_of q) → IsHeldPoint hold e → IsIn q (complex s) → HasBothMates s t q
  both_mates (Full l) e has held i = record { mate = 0; here = tt; there = tt }
  both_mates (Open l) e has held i = of (listed_is_cell s (Open l) sh.ascending i)
    where
      of : IsListedOpen s l → HasBothMates s t (Open l)
      of r =
          let m = listed_mate s r.a r.b r.c sh.ascending sh.keys
          (subst (λ (x : List ℕ). IsIn (Open x) (complex s)) r.is i) in
          let f : Cell = Full (ascending (r.a ∷ r.b ∷ r.c ∷ m.mate ∷ [])) in
          let more : IsIn e (r.a ∷ r.b ∷ r.c ∷ m.mate ∷ []) =
          wider r.a r.b r.c m.mate (subst (λ (x : List ℕ). IsIn e x) r.is has) in
          let moved : IsIn f (complex t) = cell_moves f e (in_ascending_from (r.a ∷ r.b ∷ r.c ∷ m.mate ∷ []) e more)
          held m.listed in
          let there : IsIn m.mate t = inside t (solid_set hold t th).set f moved m.mate
          (in_ascending_from (r.a ∷ r.b ∷ r.c ∷ m.mate ∷ []) m.mate (inr (inr (inr (inl refl))))) in
          record {
            mate = m.mate;
            here = subst (λ (x : List ℕ). IsMate s (Open x) m.mate) (sym r.is) (m.inside, m.off);
            there = subst (λ (x : List ℕ). IsMate t (Open x) m.mate) (sym r.is) (there, m.off);
          }
        where
          wider : (a b c d : ℕ) → IsIn e (a ∷ b ∷ c ∷ []) → IsIn e (a ∷ b ∷ c ∷ d ∷ [])
          wider a b c d (inl x) = inl x
          wider a b c d (inr (inl x)) = inr (inl x)
          wider a b c d (inr (inr (inl x))) = inr (inr (inl x))
          wider a b c d (inr (inr (inr x))) = absurd x

  -- so it goes from both or from none
  goes_moves : (p : ℕ) → IsNew s p → IsNew t p → (q : Cell) (e : ℕ) → IsIn e (points_of q) → IsHeldPoint hold e →
      GoesFrom s p q → GoesFrom t p q
  goes_moves p n n' q e has held goes =
      let m = both_mates q e has held goes.before in
      let there = cell_moves q e has held goes.before in
      (goes_in_conflict t p (solid_set hold t th) n' q m.mate there m.there).0
      ((goes_in_conflict s p (solid_set hold s sh) n q m.mate goes.before m.here).1 goes)

  -- a point that is joined to one in hand in the one complex is so in the other
  joined_moves : (v e : ℕ) → IsHeldPoint hold v → AreJoined (complex s) v e → AreJoined (complex t) v e
  joined_moves v e held j = record {
    q = j.q;
    listed = cell_moves j.q v j.has_p held j.listed;
    has_p = j.has_p;
    has_e =
        j.has_e;
  }

  -- where the rest of one is solid, so is that of the other
  rest_moves : (v : ℕ) → IsIn v s → ((e : ℕ) → AreJoined (complex s) v e → IsHeldPoint hold e) → IsHeldPoint hold v →
      is_solid (without_point v s) ≡ true → is_solid (without_point v t) ≡ true
  rest_moves v i held own solid =
      let is : IsSet t = (solid_set hold t th).set in
      let is_rest : (e : ℕ) → e ≢ v → IsIn e t → IsIn e (without_point v t) =
      λ e n m. filtered_true (λ q. not (q == v)) t e m (ap not (ne_eqb e v n)) in
      solid_near s v (without_point v t) (solid_set hold s sh).set i (rest_set v t is) solid
      (λ e n j. let m = joined_moves v e own j in is_rest e n (inside t is m.q m.listed e m.has_e))
      (λ e a.
      let shared = some_on a.f (points_on a.f) refl (facet_nonempty a.here a.f a.of_here) in
      let near : IsIn shared.0 (points_of a.here) = facet_inside a.here a.f shared.0 a.of_here shared.1 in
      let far : IsIn shared.0 (points_of a.there) = facet_inside a.there a.f shared.0 a.of_there shared.1 in
      let there : IsIn a.there (complex t) = cell_moves a.there shared.0 far
      (held shared.0 (record { q = a.here; listed = a.here_listed; has_p = a.here_has; has_e = near })) a.there_listed
      in
      is_rest e (λ q. a.there_lacks (subst (λ (x : ℕ). IsIn x (points_of a.there)) q a.has))
      (inside t is a.there there e a.has))
    where
      some_on : (f : Facet) (l : List ℕ) → points_on f ≡ l → (points_on f ≡ [] → ⊥) → (x : ℕ) × IsIn x (points_on f)
      some_on f [] e n = absurd (n e)
      some_on f (x ∷ l) e n = (x, subst (λ (m : List ℕ). IsIn x m) (sym e) (inl refl))

-- where all points of the cells that go from the one are in hand, the same cells go from the other
all_go : (hold : InHand) (s t : List ℕ) (p : ℕ) → Shows hold s → Shows hold t → IsNew s p → IsNew t p →
    ((q : Cell) (e : ℕ) → GoesFrom s p q → IsIn e (points_of q) → IsHeldPoint hold e) → (q : Cell) → GoesFrom t p q →
    GoesFrom s p q
all_go hold s t p sh th n m all q g =
    let rim = some_rim s p (solid_set hold s sh) n in
    goes q (found_from_held t p (solid_set hold t th) m held part is_part rim.1.gone (among rim.1.gone rim.1.goes) q g)
  where
    held : ℕ → Bool
    held e = is_some (bucket_at hold.places (bucket_of hold.grid e))

    part : List Cell
    part = without_cells (complex (with_point p s)) (complex s)

    goes : (q : Cell) → IsIn q part → GoesFrom s p q
    goes q i = (let r = left_out (complex s) (complex (with_point p s)) q i in record { before = r.0; after = r.1 })

    among : (q : Cell) → GoesFrom s p q → IsIn q part
    among q g = all_out (complex s) (complex (with_point p s)) q g.before g.after

    to_some : (o : Option BucketContent) → is_some o ≡ true → IsSome o
    to_some None e = absurd (cc e)
    to_some (Some x) e = refl

    from_some : (o : Option BucketContent) → IsSome o → is_some o ≡ true
    from_some None s = absurd (cc s)
    from_some (Some x) s = refl

    is_part : IsHeldPart t p held part
    is_part = record {
      goes = λ q i. (let g = goes q i in let e = some_point s (solid_set hold s sh).set q g.before in
          goes_moves hold s t sh th p n m q e.0 e.1 (all q e.0 g e.1) g);
      all_held = λ q e i j. from_some (bucket_at hold.places (bucket_of hold.grid e)) (all q e (goes q i) j);
      across = λ q r f i g w j l. among r (goes_moves hold t s th sh p m n r w.e w.has
          (to_some (bucket_at hold.places (bucket_of hold.grid w.e)) w.is_held) g);
    }

-- where the buckets that an add touches in one set are in hand, it has the same reply in both and reaches the same
add_from_held : (hold : InHand) (s t : List ℕ) (p : ℕ) → Shows hold s → Shows hold t → IsKey p →
    HoldTouched hold.grid s (Add p) hold.places →
    (reply_to s (Add p) ≡ reply_to t (Add p)) × ((e : ℕ) → Reaches s (Add p) e ↔ Reaches t (Add p) e)
add_from_held hold s t p sh th key held = (ap (λ b. cond b Duplicate Inserted) same, λ e. (forth e, back e))
  where
    own : IsHeldPoint hold p
    own = held (bucket_of hold.grid p) (own_touched hold.grid s (Add p))

    same : is_among p s ≡ is_among p t
    same = sym (held_point hold s p sh own) ∙ held_point hold t p th own

    new_t : ¬ (IsIn p s) → IsNew t p
    new_t n = record { key = key; absent = λ i. n (among_from p s (same ∙ among_true p t i)) }

    new_s : ¬ (IsIn p t) → IsNew s p
    new_s n = record { key = key; absent = λ i. n (among_from p t (sym same ∙ among_true p s i)) }

    all : ¬ (IsIn p s) → (q : Cell) (e : ℕ) → GoesFrom s p q → IsIn e (points_of q) → IsHeldPoint hold e
    all n q e g i = held (bucket_of hold.grid e)
        (record { point = e; reached = inr (n, record { q = q; goes = g; has = i }); number = refl })

    forth : (e : ℕ) → Reaches s (Add p) e → Reaches t (Add p) e
    forth e (inl q) = inl q
    forth e (inr (n, r)) =
        let m = new_t n in
        inr (
          m.absent,
          record {
            q = r.q;
            goes =
                goes_moves hold s t sh th p (new_s m.absent) m r.q e r.has (all n r.q e r.goes r.has) r.goes;
            has = r.has;
          },
        )

    back : (e : ℕ) → Reaches t (Add p) e → Reaches s (Add p) e
    back e (inl q) = inl q
    back e (inr (n, r)) =
        let m = new_s n in
        inr (
          m.absent,
          record {
            q = r.q;
            goes =
                all_go hold s t p sh th m (new_t m.absent) (all m.absent) r.q r.goes;
            has = r.has;
          },
        )

-- and so it is with a take
take_from_held : (hold : InHand) (s t : List ℕ) (v : ℕ) → Shows hold s → Shows hold t →
    HoldTouched hold.grid s (Take v) hold.places →
    (reply_to s (Take v) ≡ reply_to t (Take v)) × ((e : ℕ) → Reaches s (Take v) e ↔ Reaches t (Take v) e)
take_from_held hold s t v sh th held = (
  reply (is_among v s) (is_among v t) same (λ e. rest (among_from v s e)),
  λ e. (forth e, back e),
)
  where
    own : IsHeldPoint hold v
    own = held (bucket_of hold.grid v) (own_touched hold.grid s (Take v))

    same : is_among v s ≡ is_among v t
    same = sym (held_point hold s v sh own) ∙ held_point hold t v th own

    there : IsIn v s → IsIn v t
    there i = among_from v t (sym same ∙ among_true v s i)

    here : IsIn v t → IsIn v s
    here i = among_from v s (same ∙ among_true v t i)

    forth : (e : ℕ) → Reaches s (Take v) e → Reaches t (Take v) e
    forth e (inl q) = inl q
    forth e (inr (i, j)) = inr (there i, joined_moves hold s t sh th v e own j)

    back : (e : ℕ) → Reaches t (Take v) e → Reaches s (Take v) e
    back e (inl q) = inl q
    back e (inr (i, j)) = inr (here i, joined_moves hold t s th sh v e own j)

    joined : (e : ℕ) → AreJoined (complex s) v e → IsHeldPoint hold e
    joined e j = held (bucket_of hold.grid e) (record {
      point = e;
      reached =
          inr (inside s (solid_set hold s sh).set j.q j.listed v j.has_p, j);
      number = refl;
    })

    rest : IsIn v s → is_solid (without_point v s) ≡ is_solid (without_point v t)
    rest i = same_test (is_solid (without_point v s)) (is_solid (without_point v t))
        (rest_moves hold s t sh th v i joined own)
        (rest_moves hold t s th sh v (there i) (λ e j. joined e (joined_moves hold t s th sh v e own j)) own)

    reply : (a b : Bool) → a ≡ b → (a ≡ true → is_solid (without_point v s) ≡ is_solid (without_point v t)) →
        cond a (cond (is_solid (without_point v s)) Removed Flat) Missing ≡ cond b
        (cond (is_solid (without_point v t)) Removed Flat) Missing
    reply true b e f = λ i. cond (e i) (cond (f refl i) Removed Flat) Missing
    reply false b e f = λ i. cond (e i) (cond (is_solid (without_point v t)) Removed Flat) Missing

-- ---- a point more in both sets

-- a bucket that has what lies in it of a set
abbrev seen_in : ℕ → List ℕ → ℕ → BucketContent → BucketContent
seen_in g u b c = record c { points = filter (λ p. bucket_of g p == b) u; cells = filter (touches g b) (complex u) }

-- so each bucket of a list, from b on
abbrev seen_from : ℕ → List ℕ → ℕ → List (Option BucketContent) → List (Option BucketContent)
seen_from g u b [] = []
seen_from g u b (o ∷ places) = option_map (seen_in g u b) o ∷ seen_from g u (b + 1) places

-- at each place it is so
seen_at : (g : ℕ) (u : List ℕ) (k : ℕ) (l : List (Option BucketContent)) (b : ℕ) →
    bucket_at (seen_from g u k l) b ≡ option_map (seen_in g u (k + b)) (bucket_at l b)
seen_at g u k [] b = refl
seen_at g u k (o ∷ l) zero = let q : k ≡ k + 0 = omega arith in ap (λ (n : ℕ). option_map (seen_in g u n) o) q
seen_at g u k (o ∷ l) (suc b) = let q : k + 1 + b ≡ k + suc b = omega arith in
    seen_at g u (k + 1) l b ∙ ap (λ (n : ℕ). option_map (seen_in g u n) (bucket_at l b)) q

-- the hold that shows the set
abbrev seen : InHand → List ℕ → InHand
seen hold u = record { grid = hold.grid; places = seen_from hold.grid u 0 hold.places; room = hold.room }

-- its buckets are those in hand
seen_held : (hold : InHand) (u : List ℕ) (b : ℕ) → IsSome (bucket_at hold.places b) →
    IsSome (bucket_at (seen hold u).places b)
seen_held hold u b i = subst IsSome (sym (seen_at hold.grid u 0 hold.places b))
    (some_mapped (seen_in hold.grid u (0 + b)) (bucket_at hold.places b) i)

-- it shows another set, of which the buckets in hand have the same
seen_shows : (hold : InHand) (u v : List ℕ) → IsSolidSet v →
    ((b : ℕ) → IsSome (bucket_at hold.places b) →
    (filter (λ p. bucket_of hold.grid p == b) u ≡ filter (λ p. bucket_of hold.grid p == b) v)
    × (filter (touches hold.grid b) (complex u) ≡ filter (touches hold.grid b) (complex v))) → Shows (seen hold u) v
seen_shows hold u v i f = record { ascending = i.set.ascending; keys = i.set.keys; solid = i.solid; sights = each }
  where
    each : (b : ℕ) (c : BucketContent) → bucket_at (seen hold u).places b ≡ Some c → IsSight hold.grid b v c
    each b c e =
        let z : 0 + b ≡ b = omega arith in
        let r = mapped_some (seen_in hold.grid u (0 + b)) (bucket_at hold.places b) c
        (sym (seen_at hold.grid u 0 hold.places b) ∙ e) in
        let same = f b (is_there (bucket_at hold.places b) r.0 r.1) in
        record {
          points = sym (ap (λ (x : BucketContent). x.points) r.2)
              ∙ ap (λ (n : ℕ). filter (λ p. bucket_of hold.grid p == n) u) z ∙ same.0;
          cells = sym (ap (λ (x : BucketContent). x.cells) r.2)
              ∙ ap (λ (n : ℕ). filter (touches hold.grid n) (complex u)) z ∙ same.1;
        }

-- the set with a point that is new
pub with_solid : (s : List ℕ) (p : ℕ) → IsSolidSet s → IsNew s p → IsSolidSet (with_point p s)
with_solid s p i n = subst IsSolidSet (ap (λ (r : Reply). changed s p r)
    (inserts s p (false_if (is_among p s) (λ h. n.absent (among_from p s h))))) (stays_solid s (Add p) i n.key)

-- cells with a point in hand, where p takes the same cells away from both sets
module _ (hold : InHand) (s t : List ℕ) (p : ℕ) (sh : Shows hold s) (th : Shows hold t) (n : IsNew s p) (m : IsNew t p)
    (to : (q : Cell) → GoesFrom s p q → GoesFrom t p q) (fro : (q : Cell) → GoesFrom t p q → GoesFrom s p q)
    (held : (q : Cell) (e : ℕ) → GoesFrom s p q → IsIn e (points_of q) → IsHeldPoint hold e) where
  -- a cell of the one that stays stays in the other
  stays_moves : (q : Cell) (e : ℕ) → IsIn e (points_of q) → IsHeldPoint hold e → StaysFrom s p q → StaysFrom t p q
  stays_moves q e has h k =
      let there = cell_moves hold s t sh th q e has h k.before in
      record {
        before = there;
        after = elim (cell_in_or_not q (complex (with_point p t)))
            [ inl i ↦ i | inr no' ↦ absurd ((fro q (record { before = there; after = no' })).after k.after) ];
      }

  -- so does a rim facet
  rim_moves : (f : Facet) → IsRimOf s p f → IsRimOf t p f
  rim_moves f r =
      let shared = some_of_facet f (points_on f) refl (facet_nonempty r.gone f r.of_gone) in
      let here : IsIn shared.0 (points_of r.gone) = facet_inside r.gone f shared.0 r.of_gone shared.1 in
      let there : IsIn shared.0 (points_of r.kept) = facet_inside r.kept f shared.0 r.of_kept shared.1 in
      record {
        gone = r.gone;
        goes = to r.gone r.goes;
        of_gone = r.of_gone;
        kept = r.kept;
        stays = stays_moves r.kept shared.0 there (held r.gone shared.0 r.goes here) r.stays;
        of_kept = r.of_kept;
      }
    where
      some_of_facet : (f : Facet) (l : List ℕ) → points_on f ≡ l → (points_on f ≡ [] → ⊥) →
          (x : ℕ) × IsIn x (points_on f)
      some_of_facet f [] e k = absurd (k e)
      some_of_facet f (x ∷ l) e k = (x, subst (λ (m : List ℕ). IsIn x m) (sym e) (inl refl))

  -- and a cell of the set with p
  more_moves : (q : Cell) (e : ℕ) → IsIn e (points_of q) → IsHeldPoint hold e → IsIn q (complex (with_point p s)) →
      IsIn q (complex (with_point p t))
  more_moves q e has h i = elim ((insertion_cells s p (solid_set hold s sh) n q).0 i) [
    | inl k ↦ (stays_moves q e has h k).after
    | inr k ↦ (insertion_cells t p (solid_set hold t th) m q).1
        (inr (record { f = k.f; rim = rim_moves k.f k.rim; is = k.is }))
  ]

-- so the buckets in hand have the same of both sets with p
module _ (hold : InHand) (s t : List ℕ) (p : ℕ) (sh : Shows hold s) (th : Shows hold t) (n : IsNew s p) (m : IsNew t p)
    (to : (q : Cell) → GoesFrom s p q → GoesFrom t p q) (fro : (q : Cell) → GoesFrom t p q → GoesFrom s p q)
    (held : (q : Cell) (e : ℕ) → GoesFrom s p q → IsIn e (points_of q) → IsHeldPoint hold e) where
  -- the same cells
  same_cells : (b : ℕ) → IsSome (bucket_at hold.places b) →
      filter (touches hold.grid b) (complex (with_point p s)) ≡ filter (touches hold.grid b) (complex (with_point p t))
  same_cells b i =
      same_cell_members (filter (touches hold.grid b) (complex (with_point p s)))
      (filter (touches hold.grid b) (complex (with_point p t)))
      (IsStrictlySortedBy-filter cell_cmp (touches hold.grid b) (complex (with_point p s))
      (complex_is_sorted (with_point p s) (ascending_with p s sh.ascending)))
      (IsStrictlySortedBy-filter cell_cmp (touches hold.grid b) (complex (with_point p t))
      (complex_is_sorted (with_point p t) (ascending_with p t th.ascending)))
      (λ q k. let r = filtered_from (touches hold.grid b) (complex (with_point p s)) q k in
      let e = any_from (λ x. bucket_of hold.grid x == b) (points_of q) r.1 in
      filtered_true (touches hold.grid b) (complex (with_point p t)) q
      (more_moves hold s t p sh th n m to fro held q e.0 e.1 (in_hand e.0 e.2) r.0) r.1)
      (λ q k. let r = filtered_from (touches hold.grid b) (complex (with_point p t)) q k in
      let e = any_from (λ x. bucket_of hold.grid x == b) (points_of q) r.1 in
      filtered_true (touches hold.grid b) (complex (with_point p s)) q
      (more_moves hold t s p th sh m n fro to (λ c x g j. held c x (fro c g) j) q e.0 e.1 (in_hand e.0 e.2) r.0) r.1)
    where
      in_hand : (x : ℕ) → (bucket_of hold.grid x == b) ≡ true → IsHeldPoint hold x
      in_hand x e = subst (λ (k : ℕ). IsSome (bucket_at hold.places k)) (sym (eqb-true (bucket_of hold.grid x) b e)) i

  -- the same points
  same_points : (b : ℕ) → IsSome (bucket_at hold.places b) →
      filter (λ x. bucket_of hold.grid x == b) (with_point p s) ≡ filter (λ x. bucket_of hold.grid x ==
      b) (with_point p t)
  same_points b i = by (bucket_of hold.grid p == b) refl
    where
      both : filter (λ x. bucket_of hold.grid x == b) s ≡ filter (λ x. bucket_of hold.grid x == b) t
      both = (let c = some_of (bucket_at hold.places b) i in
          sym (sh.sights b c.0 c.1).points ∙ (th.sights b c.0 c.1).points)

      by : (o : Bool) → (bucket_of hold.grid p == b) ≡ o →
          filter (λ x. bucket_of hold.grid x == b) (with_point p s) ≡ filter (λ x. bucket_of hold.grid x ==
          b) (with_point p t)
      by true e = sym (filter_with (λ x. bucket_of hold.grid x == b) p s sh.ascending e) ∙ ap (with_point p) both
          ∙ filter_with (λ x. bucket_of hold.grid x == b) p t th.ascending e
      by false e = sym (filter_with_else (λ x. bucket_of hold.grid x == b) p s sh.ascending e) ∙ both
          ∙ filter_with_else (λ x. bucket_of hold.grid x == b) p t th.ascending e

  -- a hold that shows both
  shows_here : Shows (seen hold (with_point p s)) (with_point p s)
  shows_here = seen_shows hold (with_point p s) (with_point p s) (with_solid s p (solid_set hold s sh) n)
      (λ b i. (refl, refl))

  -- so it shows the other set with p too
  shows_there : Shows (seen hold (with_point p s)) (with_point p t)
  shows_there = seen_shows hold (with_point p s) (with_point p t) (with_solid t p (solid_set hold t th) m)
      (λ b i. (same_points b i, same_cells b i))

-- ---- a point that moves

module _ (hold : InHand) (s t : List ℕ) (a b : ℕ) (sh : Shows hold s) (th : Shows hold t) (key : IsKey b)
    (held : HoldTouched hold.grid s (Move a b) hold.places) (ia : IsIn a s) (nb : ¬ (IsIn b s)) (ja : IsIn a t)
    (mb : ¬ (IsIn b t)) where
  -- the cells that the new place takes away are held
  moved_goes : (q : Cell) (e : ℕ) → GoesFrom s b q → IsIn e (points_of q) → IsHeldPoint hold e
  moved_goes q e g i = held (bucket_of hold.grid e)
      (record { point = e; reached = inr (inr (ia, nb, inl (record { q = q; goes = g; has = i }))); number = refl })

  -- the new place is new for the one set
  new_here : IsNew s b
  new_here = record { key = key; absent = nb }

  -- and for the other
  new_there : IsNew t b
  new_there = record { key = key; absent = mb }

  -- what it takes away from the one it takes from the other
  goes_to : (q : Cell) → GoesFrom s b q → GoesFrom t b q
  goes_to q g = let e = some_point s (solid_set hold s sh).set q g.before in
      goes_moves hold s t sh th b new_here new_there q e.0 e.1 (moved_goes q e.0 g e.1) g

  -- and back
  goes_fro : (q : Cell) → GoesFrom t b q → GoesFrom s b q
  goes_fro q g = all_go hold s t b sh th new_here new_there moved_goes q g

  -- the removal in both sets with b
  taken : (reply_to (with_point b s) (Take a) ≡ reply_to (with_point b t) (Take a))
      × ((e : ℕ) → Reaches (with_point b s) (Take a) e ↔ Reaches (with_point b t) (Take a) e)
  taken = take_from_held (seen hold (with_point b s)) (with_point b s) (with_point b t) a
      (shows_here hold s t b sh th new_here new_there goes_to goes_fro moved_goes)
      (shows_there hold s t b sh th new_here new_there goes_to goes_fro moved_goes)
      (λ k r. seen_held hold (with_point b s) k (held k (record {
        point = r.point;
        reached = elim r.reached [ inl q ↦ inl q | inr j ↦ inr (inr (ia, nb, inr j.1)) ];
        number = r.number;
      })))

  -- so what the move leaves of both is solid, or of neither
  moved_solid : is_solid (moved_to a b s) ≡ is_solid (moved_to a b t)
  moved_solid = by (is_among a (with_point b s)) (is_among a (with_point b t)) (is_solid (moved_to a b s))
      (is_solid (moved_to a b t))
      (among_true a (with_point b s) (in_with_old b a s ia)) (among_true a (with_point b t) (in_with_old b a t ja))
      taken.0
    where
      by : (x y z w : Bool) → x ≡ true → y ≡ true →
          cond x (cond z Removed Flat) Missing ≡ cond y (cond w Removed Flat) Missing → z ≡ w
      by true true true true e f g = refl
      by true true false false e f g = refl
      by true true true false e f g = absurd cc
      by true true false true e f g = absurd cc
      by true false z w e f g = absurd cc
      by false y z w e f g = absurd cc

  -- what it reaches in the one it reaches in the other
  moved_reached : (e : ℕ) → IsReached s b e ⊎ AreJoined (complex (with_point b s)) a e → Reaches t (Move a b) e
  moved_reached e (inl r) = inr (inr (ja, mb, inl (record { q = r.q; goes = goes_to r.q r.goes; has = r.has })))
  moved_reached e (inr j) = elim ((taken.1 e).0 (inr (in_with_old b a s ia, j)))
      [ inl q ↦ inl q | inr k ↦ inr (inr (ja, mb, inr k.1)) ]

  -- and back
  moved_back : (e : ℕ) → IsReached t b e ⊎ AreJoined (complex (with_point b t)) a e → Reaches s (Move a b) e
  moved_back e (inl r) = inr (inr (ia, nb, inl (record { q = r.q; goes = goes_fro r.q r.goes; has = r.has })))
  moved_back e (inr j) = elim ((taken.1 e).1 (inr (in_with_old b a t ja, j)))
      [ inl q ↦ inl q | inr k ↦ inr (inr (ia, nb, inr k.1)) ]

-- where the buckets that an edit touches in one set are in hand, it has the same reply in both and touches the same
pub reach_from_held : ReachFromHeld
reach_from_held hold s t (Add p) sh th key held = add_from_held hold s t p sh th key held
reach_from_held hold s t (Take v) sh th key held = take_from_held hold s t v sh th held
reach_from_held hold s t (Move a b) sh th key held = (
  reply (is_among a s) (is_among b s) (is_among a t) (is_among b t) refl refl (same a (inl refl))
      (same b (inr (inl refl))),
  λ e. (forth e, back e),
)
  where
    same : (p : ℕ) → IsIn p (a ∷ b ∷ []) → is_among p s ≡ is_among p t
    same p i = (let own = held (bucket_of hold.grid p) (points_touched hold.grid s (Move a b) p i) in
        sym (held_point hold s p sh own) ∙ held_point hold t p th own)

    to : (p : ℕ) → IsIn p (a ∷ b ∷ []) → IsIn p s → IsIn p t
    to p i j = among_from p t (sym (same p i) ∙ among_true p s j)

    fro : (p : ℕ) → IsIn p (a ∷ b ∷ []) → IsIn p t → IsIn p s
    fro p i j = among_from p s (same p i ∙ among_true p t j)

    forth : (e : ℕ) → Reaches s (Move a b) e → Reaches t (Move a b) e
    forth e (inl q) = inl q
    forth e (inr (inl q)) = inr (inl q)
    forth e (inr (inr g)) = moved_reached hold s t a b sh th key.1 held g.0 g.1 (to a (inl refl) g.0)
        (λ j. g.1 (fro b (inr (inl refl)) j)) e g.2

    back : (e : ℕ) → Reaches t (Move a b) e → Reaches s (Move a b) e
    back e (inl q) = inl q
    back e (inr (inl q)) = inr (inl q)
    back e (inr (inr g)) = moved_back hold s t a b sh th key.1 held (fro a (inl refl) g.0)
        (λ j. g.1 (to b (inr (inl refl)) j)) g.0 g.1 e g.2

    reply : (x y z w : Bool) → is_among a s ≡ x → is_among b s ≡ y → x ≡ z → y ≡ w →
        cond x (cond y Occupied (cond (is_solid (moved_to a b s)) Moved Flat)) Missing ≡ cond z
        (cond w Occupied (cond (is_solid (moved_to a b t)) Moved Flat)) Missing
    reply false y z w f g e k = λ i. cond (e i) (cond (k i) Occupied (cond (is_solid (moved_to a b t)) Moved Flat))
        Missing
    reply true true z w f g e k = λ i. cond (e i) (cond (k i) Occupied (cond (is_solid (moved_to a b t)) Moved Flat))
        Missing
    reply true false z w f g e k =
        let ia = among_from a s f in
        let nb : IsIn b s → ⊥ = λ j. let h = among_true b s j in cc in
        let m = moved_solid hold s t a b sh th key.1 held ia nb (to a (inl refl) ia)
        (λ j. nb (fro b (inr (inl refl)) j)) in
        λ i. cond (e i) (cond (k i) Occupied (cond (m i) Moved Flat)) Missing

-- ---- edits side by side

-- an edit that reaches more touches more
more_touched : (g : ℕ) (s t : List ℕ) (edit : Edit) → ((p : ℕ) → Reaches s edit p → Reaches t edit p) → (b : ℕ) →
    IsTouched g s edit b → IsTouched g t edit b
more_touched g s t edit f b r = record { point = r.point; reached = f r.point r.reached; number = r.number }

-- two edits commute where the second touches none of the buckets that the first touches
pub commits_commute : CommitsCommute
commits_commute g s a b i k l n =
    let d = edits_commute s a b i k l (λ e r q. n (bucket_of g e) (record { point = e; reached = r; number = refl })
    (record { point = e; reached = q; number = refl })) in (
      d,
      λ c. (
        more_touched g (after s b) s a (λ e. (d.reach_a e).0) c,
        more_touched g s (after s b) a (λ e. (d.reach_a e).1) c,
      ),
      λ c. (
        more_touched g s (after s a) b (λ e. (d.reach_b e).0) c,
        more_touched g (after s a) s b (λ e. (d.reach_b e).1) c,
      ),
    )
