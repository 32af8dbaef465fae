-- What any entry, a move too, makes of the shares of a history.
use Rattle.std.specs.Prelude.{◌≡◌, ℕ, ◌+◌, ◌==◌, Bool, true, false, cond, List, [], ◌∷◌, ◌++◌, Option, None, Some}
use Rattle.std.specs.Prelude.{IfSome}
use Rattle.std.specs.List.{filter}
use Rattle.std.specs.Option.{option_map_or}
use Rattle.std.proofs.Common.{refl, sym, ◌∙◌, ap, subst}
use Rattle.std.proofs.lemmas.Bool.{eqb-true}
use Rattle.list_laws.proofs.Cited.{any_from, filtered_from, filtered_true, some_of}
use Rattle.point_order.specs.declared.cell.Cell.{Cell}
use Rattle.point_order.specs.Complex.{complex}
use Rattle.point_order.specs.Facets.{points_of}
use Rattle.point_order.specs.Sets.{IsIn, IsAscending, is_among, with_point}
use Rattle.edit_history.specs.declared.history.Edit.{Edit}
use Rattle.edit_history.specs.declared.history.Edit.TheVariants.{Add, Take, Move}
use Rattle.edit_history.specs.declared.history.Entry.{Entry}
use Rattle.edit_history.specs.declared.history.Reply.{Reply}
use Rattle.edit_history.specs.declared.history.Reply.TheVariants.{Inserted, Duplicate, Removed, Missing, Flat, Moved}
use Rattle.edit_history.specs.declared.history.Reply.TheVariants.{Occupied}
use Rattle.edit_history.specs.Edits.{point_of, reply_to, arrived, changed, after}
use Rattle.edit_history.specs.Histories.{replay, replay_from, IsLegal, IsLegalFrom}
use Rattle.edit_history.proofs.Cited.{has_moved, leaves_set}
use Rattle.bucket_grid.specs.Grids.{bucket_of}
use Rattle.cell_store.specs.Buckets.{BucketContent, bucket_at, cells_in}
use Rattle.cell_store.specs.Points.{came, goal_of}
use Rattle.cell_store.specs.Ready.{ChangeFindsCells}
use Rattle.cell_store.specs.Shares.{IsShare, cells_share}
use Rattle.cell_store.specs.Swaps.{touches, swapped}
use Rattle.cell_store.specs.Changes.{arrived_in, brought_in, noted_in, put_in, swapped_in, AnyKeepsHold, ShareAfterAny}
use Rattle.cell_store.proofs.NextLaws.{cells_after, entries_after, entries_stay, filter_with, filter_with_else, lies}
use Rattle.cell_store.proofs.NextLaws.{mapped_some, points_after, points_stay}
use Rattle.edit_history.proofs.Cited.{ascending_arrived as arrived_ascending}

-- what a history with an entry leaves
pub replay_any : (h : List Entry) (e : Entry) → IsLegal (h ++ e ∷ []) →
    replay (h ++ e ∷ []) ≡ changed (arrived (replay h) e.edit e.reply) (point_of e.edit) e.reply
replay_any h e l = from 0 [] h l
  where
    from : (n : ℕ) (s : List ℕ) (h : List Entry) → IsLegalFrom n s (h ++ e ∷ []) →
        replay_from s (h ++ e ∷ []) ≡ changed (arrived (replay_from s h) e.edit e.reply) (point_of e.edit) e.reply
    from n s [] l = ap (λ r. changed (arrived s e.edit r) (point_of e.edit) r) (sym l.1)
    from n s (d ∷ h) l = from (n + 1) (after s d.edit) h l.2

-- ---- the place to which a point has moved

-- an add brings no second place
add_brings : (p : ℕ) (r : Reply) → came (Add p) r ≡ None
add_brings p Moved = refl
add_brings p Inserted = refl
add_brings p Duplicate = refl
add_brings p Removed = refl
add_brings p Missing = refl
add_brings p Flat = refl
add_brings p Occupied = refl

-- nor does a take
take_brings : (p : ℕ) (r : Reply) → came (Take p) r ≡ None
take_brings p Moved = refl
take_brings p Inserted = refl
take_brings p Duplicate = refl
take_brings p Removed = refl
take_brings p Missing = refl
take_brings p Flat = refl
take_brings p Occupied = refl

-- a bucket of which the points are those of the set in it has, after it, those of the set with it
pub put_points : (g b p : ℕ) (s : List ℕ) (c : BucketContent) → IsAscending s → c.points ≡ filter (lies g b) s →
    (put_in g b p c).points ≡ filter (lies g b) (with_point p s)
put_points g b p s c a e = by (lies g b p) refl
  where
    by : (t : Bool) → lies g b p ≡ t → (cond t (record c { points = with_point p c.points }) c).points ≡ filter
        (lies g b) (with_point p s)
    by true q = ap (with_point p) e ∙ filter_with (lies g b) p s a q
    by false q = e ∙ filter_with_else (lies g b) p s a q

-- so it has once the new place of a move is put in, or where none comes
pub arrived_points : (g b : ℕ) (s : List ℕ) (edit : Edit) (r : Reply) (c : BucketContent) → IsAscending s →
    c.points ≡ filter (lies g b) s → (option_map_or (λ p. put_in g b p c) (came edit r) c).points ≡ filter (lies g b)
    (arrived s edit r)
arrived_points g b s (Add p) r c a e = ap (λ o. (option_map_or (λ p. put_in g b p c) o c).points) (add_brings p r) ∙ e
arrived_points g b s (Take p) r c a e = ap (λ o. (option_map_or (λ p. put_in g b p c) o c).points) (take_brings p r) ∙ e
arrived_points g b s (Move p q) Moved c a e = put_points g b q s c a e
arrived_points g b s (Move p q) Inserted c a e = e
arrived_points g b s (Move p q) Duplicate c a e = e
arrived_points g b s (Move p q) Removed c a e = e
arrived_points g b s (Move p q) Missing c a e = e
arrived_points g b s (Move p q) Flat c a e = e
arrived_points g b s (Move p q) Occupied c a e = e

-- nothing but points changes
put_rest : (g b p : ℕ) (c : BucketContent) → ((put_in g b p c).cells ≡ c.cells) ×
    ((put_in g b p c).entries ≡ c.entries) × ((put_in g b p c).place ≡ c.place)
put_rest g b p c = by (lies g b p)
  where
    by : (t : Bool) → ((cond t (record c { points = with_point p c.points }) c).cells ≡ c.cells) ×
        ((cond t (record c { points = with_point p c.points }) c).entries ≡ c.entries) ×
        ((cond t (record c { points = with_point p c.points }) c).place ≡ c.place)
    by true = (refl, refl, refl)
    by false = (refl, refl, refl)

-- so it is where the new place of a move is put in
pub arrived_rest : (g b : ℕ) (e : Entry) (c : BucketContent) → ((arrived_in g b e c).cells ≡ c.cells) ×
    ((arrived_in g b e c).entries ≡ c.entries) × ((arrived_in g b e c).place ≡ c.place)
arrived_rest g b e c = by (came e.edit e.reply)
  where
    by : (o : Option ℕ) → ((option_map_or (λ p. put_in g b p c) o c).cells ≡ c.cells) ×
        ((option_map_or (λ p. put_in g b p c) o c).entries ≡ c.entries) ×
        ((option_map_or (λ p. put_in g b p c) o c).place ≡ c.place)
    by None = (refl, refl, refl)
    by (Some p) = put_rest g b p c

-- it was not there, and it is the one for which there is room
pub came_free : (s : List ℕ) (edit : Edit) (r : Reply) → r ≡ reply_to s edit →
    IfSome (came edit r) (λ p. (is_among p s ≡ false) × (goal_of edit ≡ Some p))
came_free s (Add p) r e = subst (λ o. IfSome o (λ q. (is_among q s ≡ false) × (None ≡ Some q))) (sym (add_brings p r))
    tt
came_free s (Take p) r e = subst (λ o. IfSome o (λ q. (is_among q s ≡ false) × (None ≡ Some q))) (sym (take_brings p r))
    tt
came_free s (Move p q) Moved e = ((has_moved p q s (sym e)).free, refl)
came_free s (Move p q) Inserted e = tt
came_free s (Move p q) Duplicate e = tt
came_free s (Move p q) Removed e = tt
came_free s (Move p q) Missing e = tt
came_free s (Move p q) Flat e = tt
came_free s (Move p q) Occupied e = tt

-- ---- the shares

-- a bucket that is its share of a history is, after all that the next entry makes of it, its share of the longer one
pub share_after_any : ShareAfterAny
share_after_any g b h e gone fresh c next sh = by (lies g b (point_of e.edit)) refl
  where
    k : List Entry
    k = h ++ e ∷ []

    mid : BucketContent
    mid = arrived_in g b e (swapped_in g b gone fresh c)

    with : List ℕ
    with = arrived (replay h) e.edit e.reply

    points : mid.points ≡ filter (lies g b) with
    points = arrived_points g b (replay h) e.edit e.reply (swapped_in g b gone fresh c) (leaves_set h) sh.points

    rest : (mid.cells ≡ swapped g b gone fresh c.cells) × (mid.entries ≡ c.entries) × (mid.place ≡ c.place)
    rest = arrived_rest g b e (swapped_in g b gone fresh c)

    cells : mid.cells ≡ cells_share g b k
    cells = rest.0 ∙ ap (swapped g b gone fresh) sh.cells ∙ cells_after g b h k gone fresh next.change

    ascends : IsAscending with
    ascends = arrived_ascending (replay h) e.edit e.reply (leaves_set h)

    by : (o : Bool) → lies g b (point_of e.edit) ≡ o → IsShare g b k
        (cond o (record mid { points = changed mid.points (point_of e.edit) e.reply; entries = mid.entries ++ e ∷ [] })
        mid)
    by true t = record {
      points = ap (λ l. changed l (point_of e.edit) e.reply) points ∙ points_after (lies g b) (point_of e.edit) e.reply
          with ascends t ∙ ap (filter (lies g b)) (sym (replay_any h e next.legal));
      cells = cells;
      entries = ap (λ l. l ++ e ∷ []) (rest.1 ∙ sh.entries) ∙ entries_after g b h e t;
    }
    by false t = record {
      points = points ∙ points_stay (lies g b) (point_of e.edit) e.reply with ascends t ∙ ap (filter (lies g b))
          (sym (replay_any h e next.legal));
      cells = cells;
      entries = rest.1 ∙ sh.entries ∙ entries_stay g b h e t;
    }

-- and so with all buckets of a hold
pub any_keeps_hold : AnyKeepsHold
any_keeps_hold h e gone fresh old swap put new st next sw ar nd = record
    { legal = next.legal; keys = next.keys; solid = next.solid; shares = each }
  where
    each : (b : ℕ) (c : BucketContent) → bucket_at new.places b ≡ Some c → IsShare new.grid b (h ++ e ∷ []) c
    each b c q =
        let r = mapped_some (noted_in put.grid b e) (bucket_at put.places b) c (sym (nd.places b) ∙ q) in
        let t = mapped_some (arrived_in swap.grid b e) (bucket_at swap.places b) r.0 (sym (ar.places b) ∙ r.1) in
        let u = mapped_some (swapped_in old.grid b gone fresh) (bucket_at old.places b) t.0 (sym (sw.places b) ∙ t.1) in
        let s = share_after_any old.grid b h e gone fresh u.0 next (st.shares b u.0 u.1) in
        let v : brought_in old.grid b gone fresh e u.0 ≡ c =
        ap (λ x. noted_in old.grid b e (arrived_in old.grid b e x)) u.2
        ∙ ap (λ g. noted_in old.grid b e (arrived_in g b e t.0)) (sym sw.grid)
        ∙ ap (noted_in old.grid b e) t.2
        ∙ ap (λ g. noted_in g b e r.0) (sym (ar.grid ∙ sw.grid)) ∙ r.2 in
        subst (λ g. IsShare g b (h ++ e ∷ []) c) (sym (nd.grid ∙ ar.grid ∙ sw.grid))
        (subst (IsShare old.grid b (h ++ e ∷ [])) v s)

-- ---- what an exchange finds

-- a hold that shows a set finds the cells of a change of its complex, where the gone ones are held
pub change_finds_cells : ChangeFindsCells
change_finds_cells hold s t gone fresh sh ch held = record { there = there; absent = absent }
  where
    in_it : (b : ℕ) (c : BucketContent) → bucket_at hold.places b ≡ Some c →
        cells_in hold.places b ≡ filter (touches hold.grid b) (complex s)
    in_it b c e = ap (λ o. option_map_or (λ (x : BucketContent). x.cells) o []) e ∙ (sh.sights b c e).cells

    there : (b : ℕ) (c : Cell) → IsIn c gone → touches hold.grid b c ≡ true → IsIn c (cells_in hold.places b)
    there b c i t =
        let v = any_from (λ p. bucket_of hold.grid p == b) (points_of c) t in
        let x = some_of (bucket_at hold.places (bucket_of hold.grid v.0)) (held c i v.0 v.1) in
        let e : bucket_at hold.places b ≡ Some x.0 = ap (bucket_at hold.places)
        (sym (eqb-true (bucket_of hold.grid v.0) b v.2)) ∙ x.1 in
        subst (IsIn c) (sym (in_it b x.0 e)) (filtered_true (touches hold.grid b) (complex s) c (ch.went c i).0 t)

    absent : (b : ℕ) (c : Cell) → IsIn c fresh → touches hold.grid b c ≡ true → IsIn c (cells_in hold.places b) → ⊥
    absent b c i t m = by (bucket_at hold.places b) refl
      where
        by : (o : Option BucketContent) → bucket_at hold.places b ≡ o → ⊥
        by None e = subst (IsIn c) (ap (λ o. option_map_or (λ (x : BucketContent). x.cells) o []) e) m
        by (Some x) e = (ch.came c i).1 (filtered_from (touches hold.grid b) (complex s) c
            (subst (IsIn c) (in_it b x e) m)).0
