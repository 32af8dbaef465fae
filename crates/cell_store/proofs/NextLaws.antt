-- What an entry makes of the shares of a history.
use Rattle.std.specs.Prelude.{◌≡◌, ℕ, ◌+◌, Bool, true, false, cond, not, ◌==◌, List, [], ◌∷◌, ◌++◌, Option, None, Some}
use Rattle.std.specs.List.{filter}
use Rattle.std.specs.Option.{option_map}
use Rattle.std.proofs.Common.{refl, sym, ◌∙◌, ap, subst, inl, inr, arith}
use Rattle.std.proofs.lemmas.Bool.{eqb-true}
use Rattle.std.proofs.lemmas.List.{append-nil}
use Rattle.std.proofs.lemmas.List.Elements.{filter-append}
use Rattle.std.proofs.lemmas.List.Kept.{IsStrictlySortedBy-filter}
use Rattle.list_laws.proofs.Cited.{filter_swap, filtered_ascending, filtered_from, filtered_true}
use Rattle.list_laws.proofs.Cited.{same_members as same-members}
use Rattle.point_order.specs.declared.cell.Cell.{Cell}
use Rattle.point_order.specs.CellOrder.{cell_cmp}
use Rattle.point_order.specs.Complex.{complex}
use Rattle.point_order.specs.Sets.{IsIn, IsAscending, with_point, without_point}
use Rattle.point_order.proofs.Cited.{ascending_with, cell_in_or_not, in_with, in_with_new, in_with_old}
use Rattle.edit_history.specs.declared.history.Entry.{Entry}
use Rattle.edit_history.specs.declared.history.Reply.{Reply}
use Rattle.edit_history.specs.declared.history.Reply.TheVariants.{Inserted, Duplicate, Removed, Missing, Flat, Moved}
use Rattle.edit_history.specs.declared.history.Reply.TheVariants.{Occupied}
use Rattle.edit_history.specs.Edits.{is_move, point_of, reply_to, changed, after}
use Rattle.edit_history.specs.Histories.{replay, replay_from, IsLegal, IsLegalFrom}
use Rattle.edit_history.proofs.Cited.{arrived_still, leaves_set, legal_more, replay_more}
use Rattle.del_laws.proofs.Cited.{complex_is_sorted, same_members}
use Rattle.hole_laws.specs.Edits.{IsSolidSet}
use Rattle.hole_laws.proofs.Cited.{stays_solid}
use Rattle.bucket_grid.specs.Grids.{bucket_of}
use Rattle.cell_store.specs.Buckets.{BucketContent, bucket_at}
use Rattle.cell_store.specs.Swaps.{touches, swapped}
use Rattle.cell_store.specs.Shares.{IsShare, cells_share, entries_share}
use Rattle.cell_store.specs.Changes.{swapped_in, noted_in, NextEntry, EntryKeepsHold, ShareAfterEntry}
use Rattle.cell_changes.specs.Changes.{IsChange}
use Rattle.cell_store.specs.Changes.{ShareElsewhere}
use Rattle.cell_stars.proofs.Cited.{swapped_from, swapped_new, swapped_none, swapped_old, swapped_sorted}

-- ---- the cells

-- the cells of a complex that touch a bucket, exchanged, are those of the next complex
pub cells_next : (g b : ℕ) (s t gone fresh : List Cell) → IsChange s t gone fresh →
    ((x : Cell) → IsIn x (swapped g b gone fresh (filter (touches g b) s)) → IsIn x (filter (touches g b) t))
    × ((x : Cell) → IsIn x (filter (touches g b) t) → IsIn x (swapped g b gone fresh (filter (touches g b) s)))
cells_next g b s t gone fresh ch = (forth, back)
  where
    forth : (x : Cell) → IsIn x (swapped g b gone fresh (filter (touches g b) s)) → IsIn x (filter (touches g b) t)
    forth x m = elim (swapped_from g b gone fresh (filter (touches g b) s) x m) [
      | inl k ↦ filtered_true (touches g b) t x (ch.came x k.0).0 k.1
      | inr k ↦ (let r = filtered_from (touches g b) s x k.0 in elim (cell_in_or_not x t) [
        | inl i ↦ filtered_true (touches g b) t x i r.1
        | inr n ↦ absurd (k.1 (ch.all_gone x r.0 n) r.1)
      ])
    ]

    back : (x : Cell) → IsIn x (filter (touches g b) t) → IsIn x (swapped g b gone fresh (filter (touches g b) s))
    back x m = (let r = filtered_from (touches g b) t x m in elim (cell_in_or_not x s) [
      | inl i ↦ swapped_old g b gone fresh (filter (touches g b) s) x (filtered_true (touches g b) s x i r.1)
          (λ k. (ch.went x k).1 r.0)
      | inr n ↦ swapped_new g b gone fresh (filter (touches g b) s) x (ch.all_fresh x r.0 n) r.1
    ])

-- so it is with the complexes of two histories
pub cells_after : (g b : ℕ) (h k : List Entry) (gone fresh : List Cell) →
    IsChange (complex (replay h)) (complex (replay k)) gone fresh →
    swapped g b gone fresh (cells_share g b h) ≡ cells_share g b k
cells_after g b h k gone fresh ch =
    let r = cells_next g b (complex (replay h)) (complex (replay k)) gone fresh ch in
    same_members (swapped g b gone fresh (cells_share g b h)) (cells_share g b k)
    (swapped_sorted g b gone fresh (cells_share g b h)
    (IsStrictlySortedBy-filter cell_cmp (touches g b) (complex (replay h))
    (complex_is_sorted (replay h) (leaves_set h))))
    (IsStrictlySortedBy-filter cell_cmp (touches g b) (complex (replay k))
    (complex_is_sorted (replay k) (leaves_set k)))
    r.0 r.1

-- ---- the points

-- the test whether a point lies in a bucket
abbrev pub lies : ℕ → ℕ → ℕ → Bool
lies g b p = bucket_of g p == b

-- a filtered set after a change: where the point passes the test, the change of the filtered set
pub filter_with : (t : ℕ → Bool) (p : ℕ) (s : List ℕ) → IsAscending s → t p ≡ true →
    with_point p (filter t s) ≡ filter t (with_point p s)
filter_with t p s a e =
    same-members (with_point p (filter t s)) (filter t (with_point p s))
    (ascending_with p (filter t s) (filtered_ascending t s a))
    (filtered_ascending t (with_point p s) (ascending_with p s a))
    (λ q i. elim (in_with p q (filter t s) i) [
      | inl f ↦ filtered_true t (with_point p s) q (subst (λ z. IsIn z (with_point p s)) f (in_with_new p s))
          (subst (λ z. t z ≡ true) f e)
      | inr j ↦ (let r = filtered_from t s q j in filtered_true t (with_point p s) q (in_with_old p q s r.0) r.1)
    ])
    (λ q i. (let r = filtered_from t (with_point p s) q i in elim (in_with p q s r.0) [
      | inl f ↦ subst (λ z. IsIn z (with_point p (filter t s))) f (in_with_new p (filter t s))
      | inr j ↦ in_with_old p q (filter t s) (filtered_true t s q j r.1)
    ]))

-- and where it does not, no change
pub filter_with_else : (t : ℕ → Bool) (p : ℕ) (s : List ℕ) → IsAscending s → t p ≡ false →
    filter t s ≡ filter t (with_point p s)
filter_with_else t p s a e =
    same-members (filter t s) (filter t (with_point p s)) (filtered_ascending t s a)
    (filtered_ascending t (with_point p s) (ascending_with p s a))
    (λ q i. (let r = filtered_from t s q i in filtered_true t (with_point p s) q (in_with_old p q s r.0) r.1))
    (λ q i. (let r = filtered_from t (with_point p s) q i in elim (in_with p q s r.0) [
      | inl f ↦ (let n : t q ≡ false = subst (λ z. t z ≡ false) f e in absurd (cc (n, r.1)))
      | inr j ↦ filtered_true t s q j r.1
    ]))

-- a point that does not pass is not among those that do, so taking it out changes nothing
filter_without_else : (t : ℕ → Bool) (p : ℕ) (s : List ℕ) → IsAscending s → t p ≡ false →
    filter t s ≡ filter t (without_point p s)
filter_without_else t p s a e =
    same-members (filter t s) (filter t (without_point p s)) (filtered_ascending t s a)
    (filtered_ascending t (without_point p s) (filtered_ascending (λ q. not (q == p)) s a))
    (λ q i. (let r = filtered_from t s q i in filtered_true t (without_point p s) q
    (filtered_true (λ q. not (q == p)) s q r.0 (other q r.1)) r.1))
    (λ q i. (let r = filtered_from t (without_point p s) q i in
    filtered_true t s q (filtered_from (λ q. not (q == p)) s q r.0).0 r.1))
  where
    other : (q : ℕ) → t q ≡ true → not (q == p) ≡ true
    other q f = by (q == p) refl
      where
        by : (b : Bool) → (q == p) ≡ b → not b ≡ true
        by true g = (let n : t q ≡ false = subst (λ z. t z ≡ false) (sym (eqb-true q p g)) e in absurd (cc (n, f)))
        by false g = refl

-- the points of a bucket after a change of the set
pub points_after : (t : ℕ → Bool) (p : ℕ) (r : Reply) (s : List ℕ) → IsAscending s → t p ≡ true →
    changed (filter t s) p r ≡ filter t (changed s p r)
points_after t p Inserted s a e = filter_with t p s a e
points_after t p Duplicate s a e = refl
points_after t p Removed s a e = filter_swap t (λ q. not (q == p)) s a
points_after t p Missing s a e = refl
points_after t p Flat s a e = refl
points_after t p Moved s a e = filter_swap t (λ q. not (q == p)) s a
points_after t p Occupied s a e = refl

-- and with a point that is not in the bucket its points stay
pub points_stay : (t : ℕ → Bool) (p : ℕ) (r : Reply) (s : List ℕ) → IsAscending s → t p ≡ false →
    filter t s ≡ filter t (changed s p r)
points_stay t p Inserted s a e = filter_with_else t p s a e
points_stay t p Duplicate s a e = refl
points_stay t p Removed s a e = filter_without_else t p s a e
points_stay t p Missing s a e = refl
points_stay t p Flat s a e = refl
points_stay t p Moved s a e = filter_without_else t p s a e
points_stay t p Occupied s a e = refl

-- ---- one more entry

-- what a history with an entry leaves
pub replay_next : (h : List Entry) (e : Entry) → IsLegal (h ++ e ∷ []) → is_move e.edit ≡ false →
    replay (h ++ e ∷ []) ≡ changed (replay h) (point_of e.edit) e.reply
replay_next h e l still = from 0 [] h l
  where
    from : (n : ℕ) (s : List ℕ) (h : List Entry) → IsLegalFrom n s (h ++ e ∷ []) →
        replay_from s (h ++ e ∷ []) ≡ changed (replay_from s h) (point_of e.edit) e.reply
    from n s [] l = ap (λ t. changed t (point_of e.edit) (reply_to s e.edit))
        (arrived_still s e.edit (reply_to s e.edit) still) ∙ ap (changed s (point_of e.edit)) (sym l.1)
    from n s (d ∷ h) l = from (n + 1) (after s d.edit) h l.2

-- the entries of a bucket with one more
pub entries_after : (g b : ℕ) (h : List Entry) (e : Entry) → lies g b (point_of e.edit) ≡ true →
    entries_share g b h ++ e ∷ [] ≡ entries_share g b (h ++ e ∷ [])
entries_after g b h e t = sym (filter-append (λ e. lies g b (point_of e.edit)) h (e ∷ [])
    ∙ ap (λ o. entries_share g b h ++ cond o (e ∷ []) []) t)

-- and with an entry that is not of the bucket its entries stay
pub entries_stay : (g b : ℕ) (h : List Entry) (e : Entry) → lies g b (point_of e.edit) ≡ false →
    entries_share g b h ≡ entries_share g b (h ++ e ∷ [])
entries_stay g b h e t = sym (filter-append (λ e. lies g b (point_of e.edit)) h (e ∷ [])
    ∙ ap (λ o. entries_share g b h ++ cond o (e ∷ []) []) t ∙ append-nil (entries_share g b h))

-- ---- the laws

-- an entry that follows a sound history is next: the history with it is legal, and its set solid
pub next_entry : NextEntry
next_entry h e gone fresh sound key f =
    let there : replay (h ++ e ∷ []) ≡ after (replay h) e.edit = replay_more [] h e in
    let set : IsSolidSet (replay (h ++ e ∷ [])) =
    subst (λ (v : List ℕ). IsSolidSet v) (sym there) (stays_solid (replay h) e.edit sound.set key) in
    record {
      legal = legal_more 0 [] h e sound.legal (omega (arith, f.number)) f.reply;
      keys = set.set.keys;
      solid = set.solid;
      change = subst (λ (v : List ℕ). IsChange (complex (replay h)) (complex v) gone fresh) (sym there) f.change;
    }

-- a bucket that is its share is, after the exchange and the entry, its share of the longer history
pub share_after_entry : ShareAfterEntry
share_after_entry g b h e gone fresh c next still sh = by (lies g b (point_of e.edit)) refl
  where
    k : List Entry
    k = h ++ e ∷ []

    cells : swapped g b gone fresh c.cells ≡ cells_share g b k
    cells = ap (swapped g b gone fresh) sh.cells ∙ cells_after g b h k gone fresh next.change

    by : (o : Bool) → lies g b (point_of e.edit) ≡ o →
        IsShare g b k (cond o (record (swapped_in g b gone fresh c) {
          points =
              changed c.points (point_of e.edit) e.reply;
          entries = c.entries ++ e ∷ [];
        }) (swapped_in g b gone fresh c))
    by true t = record {
      points = ap (λ l. changed l (point_of e.edit) e.reply) sh.points
          ∙ points_after (lies g b) (point_of e.edit) e.reply (replay h) (leaves_set h) t
          ∙ ap (filter (lies g b)) (sym (replay_next h e next.legal still));
      cells = cells;
      entries = ap (λ l. l ++ e ∷ []) sh.entries ∙ entries_after g b h e t;
    }
    by false t = record {
      points = sh.points ∙ points_stay (lies g b) (point_of e.edit) e.reply (replay h) (leaves_set h) t
          ∙ ap (filter (lies g b)) (sym (replay_next h e next.legal still));
      cells = cells;
      entries = sh.entries ∙ entries_stay g b h e t;
    }

-- a bucket that neither an entry nor its cells touch has the same share of both histories
pub share_elsewhere : ShareElsewhere
share_elsewhere g b h e gone fresh c next still t f1 f2 sh = record {
  points = sh.points ∙ points_stay (lies g b) (point_of e.edit) e.reply (replay h) (leaves_set h) t
      ∙ ap (filter (lies g b)) (sym (replay_next h e next.legal still));
  cells = sym (swapped_none g b gone fresh c.cells f1 f2) ∙ ap (swapped g b gone fresh) sh.cells
      ∙ cells_after g b h (h ++ e ∷ []) gone fresh next.change;
  entries = sh.entries ∙ entries_stay g b h e t;
}

-- the bucket before, where there is one after
pub mapped_some : {X : Type 0} (f : X → X) (o : Option X) (y : X) → option_map f o ≡ Some y →
    (x : X) × (o ≡ Some x) × (f x ≡ y)
mapped_some {X} f None y e = absurd (cc e)
mapped_some {X} f (Some x) y e = (x, refl, same (f x) y e)
  where
    same : (a b : X) → Some a ≡ Some b → a ≡ b
    same a b e = cc

-- a hold that stands for a history stands, after the exchange and the entry, for the longer one
pub entry_keeps_hold : EntryKeepsHold
entry_keeps_hold h e gone fresh old between new st next still sw nd =
    record { legal = next.legal; keys = next.keys; solid = next.solid; shares = each }
  where
    each : (b : ℕ) (c : BucketContent) → bucket_at new.places b ≡ Some c → IsShare new.grid b (h ++ e ∷ []) c
    each b c q =
        let r = mapped_some (noted_in between.grid b e) (bucket_at between.places b) c (sym (nd.places b) ∙ q) in
        let u = mapped_some (swapped_in old.grid b gone fresh) (bucket_at old.places b) r.0 (sym (sw.places b) ∙ r.1) in
        let s = share_after_entry old.grid b h e gone fresh u.0 next still (st.shares b u.0 u.1) in
        let v : noted_in old.grid b e (swapped_in old.grid b gone fresh u.0) ≡ c =
        ap (noted_in old.grid b e) u.2 ∙ ap (λ g. noted_in g b e r.0) (sym sw.grid) ∙ r.2 in
        subst (λ g. IsShare g b (h ++ e ∷ []) c) (sym (nd.grid ∙ sw.grid))
        (subst (IsShare old.grid b (h ++ e ∷ [])) v s)
