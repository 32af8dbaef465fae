-- What the trial of an edit finds is what the edit changes and reaches.
use Rattle.std.specs.Prelude.{◌≡◌, ◌⊎◌, ◌↔◌, ℕ, Bool, true, false, if◌then◌else◌, List, [], ◌∷◌}
use Rattle.std.specs.List.{filter}
use Rattle.std.proofs.Common.{refl, sym, ◌∙◌, ap, subst, inl, inr}
use Rattle.list_laws.proofs.Cited.{among_from, among_true, false_if, filtered_from, filtered_true, from_append, in_left}
use Rattle.list_laws.proofs.Cited.{in_right}
use Rattle.point_order.specs.declared.cell.Cell.{Cell}
use Rattle.point_order.specs.Complex.{complex}
use Rattle.point_order.specs.Facets.{points_of}
use Rattle.point_order.specs.Sets.{IsIn, IsAscending, is_among, with_point}
use Rattle.point_order.proofs.Cited.{in_with, in_with_new, in_with_old}
use Rattle.edit_history.specs.declared.history.Edit.{Edit}
use Rattle.edit_history.specs.declared.history.Edit.TheVariants.{Add, Take, Move}
use Rattle.edit_history.specs.declared.history.Reply.{Reply}
use Rattle.edit_history.specs.declared.history.Reply.TheVariants.{Inserted, Duplicate, Removed, Missing, Flat, Moved}
use Rattle.edit_history.specs.declared.history.Reply.TheVariants.{Occupied}
use Rattle.edit_history.specs.Edits.{edit_points, moved_to, reply_to, changed, after}
use Rattle.edit_history.proofs.Cited.{inserts}
use Rattle.point_order.specs.Solid.{is_solid}
use Rattle.del_laws.proofs.Cited.{listed_inside, listed_is_cell}
use Rattle.hole_laws.specs.Commuting.{Reaches}
use Rattle.hole_laws.specs.Laws.{IsReached}
use Rattle.hole_laws.specs.Lists.{AreJoined}
use Rattle.cell_store.specs.Swaps.{without_cells}
use Rattle.cell_changes.specs.Changes.{IsChange}
use Rattle.cell_store.proofs.Cited.{all_out, left_out}
use Rattle.claim_rule.specs.declared.trial.Trial.{Trial}
use Rattle.claim_rule.proofs.Nexts.{both_out}
use Rattle.claim_rule.specs.Trials.{IsOnSome, IsTrialOf, cells_beside, near_cells, near_move}

-- the set after an added point has it besides
pub added : (p : ℕ) (s : List ℕ) (q : ℕ) → IsIn q (after s (Add p)) ↔ (IsIn q s ⊎ (p ≡ q))
added p s q = by (is_among p s) refl
  where
    by : (t : Bool) → is_among p s ≡ t → IsIn q (changed s p (if t then Duplicate else Inserted)) ↔ (IsIn q s ⊎ (p ≡ q))
    by true e = (
      (λ i. inl i),
      (λ k. elim k [
        | inl i ↦ i
        | inr j ↦ subst (λ (x : ℕ). IsIn x s) j (among_from p s e)
      ]),
    )
    by false e = (
      (λ i. elim (in_with p q s i) [
        | inl j ↦ inr j
        | inr j ↦ inl j
      ]),
      (λ k. elim k [
        | inl i ↦ in_with_old p q s i
        | inr j ↦ subst (λ (x : ℕ). IsIn x (with_point p s)) j (in_with_new p s)
      ]),
    )

-- the cells with a new point
new_added : (s : List ℕ) (p : ℕ) → (IsIn p s → ⊥) → complex (after s (Add p)) ≡ complex (with_point p s)
new_added s p n = ap (λ r. complex (changed s p r)) (inserts s p (false_if (is_among p s) (λ h. n (among_from p s h))))

-- the points of the cells beside a move are those that it reaches where it finds its point, and none at its new place
module _ (s : List ℕ) (a b p : ℕ) where
  -- a move reaches both its places
  own_either : IsIn p (a ∷ b ∷ []) → Reaches s (Move a b) p
  own_either (inl x) = inl (sym x)
  own_either (inr (inl x)) = inr (inl (sym x))
  own_either (inr (inr x)) = absurd x

  -- where it does nothing
  near_idle : (l : List Cell) → l ≡ [] → (IsIn a s → (IsIn b s → ⊥) → ⊥) →
      Reaches s (Move a b) p ↔ (IsIn p (a ∷ b ∷ []) ⊎ IsOnSome l p)
  near_idle l e idle = (there, back)
    where
      there : Reaches s (Move a b) p → IsIn p (a ∷ b ∷ []) ⊎ IsOnSome l p
      there (inl x) = inl (inl (sym x))
      there (inr (inl x)) = inl (inr (inl (sym x)))
      there (inr (inr t)) = absurd (idle t.0 t.1)

      back : IsIn p (a ∷ b ∷ []) ⊎ IsOnSome l p → Reaches s (Move a b) p
      back (inl i) = own_either i
      back (inr o) = absurd (subst (IsIn o.cell) e o.listed)

  -- where it looks for cells
  near_real : (l : List Cell) → l ≡ cells_beside a (complex s) (complex (with_point b s)) → IsIn a s →
      (IsIn b s → ⊥) → Reaches s (Move a b) p ↔ (IsIn p (a ∷ b ∷ []) ⊎ IsOnSome l p)
  near_real l e i n = (there, back)
    where
      with_goal : List Cell
      with_goal = complex (with_point b s)

      goes : List Cell
      goes = without_cells with_goal (complex s)

      at_a : List Cell
      at_a = filter (λ c. is_among a (points_of c)) with_goal

      there : Reaches s (Move a b) p → IsIn p (a ∷ b ∷ []) ⊎ IsOnSome l p
      there (inl x) = inl (inl (sym x))
      there (inr (inl x)) = inl (inr (inl (sym x)))
      there (inr (inr t)) = elim t.2 [
        | inl r ↦ inr record {
          cell = r.q;
          listed = subst (IsIn r.q) (sym e)
              (in_left r.q goes at_a (all_out (complex s) with_goal r.q r.goes.before r.goes.after));
          has = r.has;
        }
        | inr j ↦ inr record {
          cell = j.q;
          listed = subst (IsIn j.q) (sym e) (in_right j.q goes at_a
              (filtered_true (λ c. is_among a (points_of c)) with_goal j.q j.listed
              (among_true a (points_of j.q) j.has_p)));
          has = j.has_e;
        }
      ]

      gone_reached : (c : Cell) → IsIn c goes → IsIn p (points_of c) → IsReached s b p
      gone_reached c k h =
          let r = left_out (complex s) with_goal c k in
          record { q = c; goes = record { before = r.0; after = r.1 }; has = h }

      joined : (c : Cell) → IsIn c at_a → IsIn p (points_of c) → AreJoined with_goal a p
      joined c k h =
          let r = filtered_from (λ c. is_among a (points_of c)) with_goal c k in
          record { q = c; listed = r.0; has_p = among_from a (points_of c) r.1; has_e = h }

      back : IsIn p (a ∷ b ∷ []) ⊎ IsOnSome l p → Reaches s (Move a b) p
      back (inl k) = own_either k
      back (inr o) = inr (inr (
        i,
        n,
        elim (from_append o.cell goes at_a (subst (IsIn o.cell) e o.listed)) [
          | inl k ↦ inl (gone_reached o.cell k o.has)
          | inr k ↦ inr (joined o.cell k o.has)
        ],
      ))

-- by its reply
near_moved : (s : List ℕ) (a b : ℕ) (gone near : List Cell) → near ≡ near_cells s (Move a b) (complex s) gone →
    (p : ℕ) → Reaches s (Move a b) p ↔ (IsIn p (a ∷ b ∷ []) ⊎ IsOnSome near p)
near_moved s a b gone near is p = by (is_among a s) (is_among b s) refl refl
  where
    beside : List Cell
    beside = cells_beside a (complex s) (complex (after s (Add b)))

    found : Reply → List Cell
    found r = near_move r beside

    solid : (t : Bool) → found (if t then Moved else Flat) ≡ beside
    solid true = refl
    solid false = refl

    inner : Bool → Reply
    inner t = if t then Occupied else (if is_solid (moved_to a b s) then Moved else Flat)

    by : (x y : Bool) → is_among a s ≡ x → is_among b s ≡ y →
        Reaches s (Move a b) p ↔ (IsIn p (a ∷ b ∷ []) ⊎ IsOnSome near p)
    by false y ea eb =
        near_idle s a b p near (is ∙ ap (λ t. found (if t then inner (is_among b s) else Missing)) ea)
        (λ i n. (let t = among_true a s i in cc (t, ea)))
    by true true ea eb =
        near_idle s a b p near
        (is ∙ ap (λ t. found (if t then inner (is_among b s) else Missing)) ea ∙ ap (λ t. found (inner t)) eb)
        (λ i n. n (among_from b s eb))
    by true false ea eb =
        let free : IsIn b s → ⊥ = λ i. (let t = among_true b s i in cc (t, eb)) in
        near_real s a b p near
        (is ∙ ap (λ t. found (if t then inner (is_among b s) else Missing)) ea ∙ ap (λ t. found (inner t)) eb
        ∙ solid (is_solid (moved_to a b s)) ∙ ap (cells_beside a (complex s)) (new_added s b free))
        (among_from a s ea) free

-- a reply but these two leaves those beside it
pub near_unless : (r : Reply) (beside : List Cell) → (r ≡ Missing → ⊥) → (r ≡ Occupied → ⊥) →
    beside ≡ near_move r beside
near_unless Missing beside n m = absurd (n refl)
near_unless Occupied beside n m = absurd (m refl)
near_unless Inserted beside n m = refl
near_unless Duplicate beside n m = refl
near_unless Removed beside n m = refl
near_unless Flat beside n m = refl
near_unless Moved beside n m = refl

-- one of one point
one_in : (v p : ℕ) → IsIn p (v ∷ []) → p ≡ v
one_in v p (inl e) = sym e
one_in v p (inr x) = absurd x

-- the cells near an edit have the points that it reaches beside its own
near_reached : (s : List ℕ) (edit : Edit) (gone fresh near : List Cell) → IsAscending s →
    IsChange (complex s) (complex (after s edit)) gone fresh → near ≡ near_cells s edit (complex s) gone →
    (p : ℕ) → Reaches s edit p ↔ (IsIn p (edit_points edit) ⊎ IsOnSome near p)
near_reached s (Move a b) gone fresh near order change is p = near_moved s a b gone near is p
near_reached s (Add v) gone fresh near order change is p = (there, back)
  where
    absent : IsIn v s → complex (after s (Add v)) ≡ complex s
    absent i = ap (λ b. complex (changed s v (if b then Duplicate else Inserted))) (among_true v s i)

    there : Reaches s (Add v) p → IsIn p (v ∷ []) ⊎ IsOnSome near p
    there (inl e) = inl (inl (sym e))
    there (inr r) = inr record {
      cell = r.1.q;
      listed = subst (λ (l : List Cell). IsIn r.1.q l) (sym is)
          (change.all_gone r.1.q r.1.goes.before (λ i. r.1.goes.after
          (subst (λ (l : List Cell). IsIn r.1.q l) (new_added s v r.0) i)));
      has = r.1.has;
    }

    back : IsIn p (v ∷ []) ⊎ IsOnSome near p → Reaches s (Add v) p
    back (inl i) = inl (one_in v p i)
    back (inr o) =
        let k = change.went o.cell (subst (λ (l : List Cell). IsIn o.cell l) is o.listed) in
        let n : IsIn v s → ⊥ = λ i. k.1 (subst (λ (l : List Cell). IsIn o.cell l) (sym (absent i)) k.0) in
        inr (
          n,
          record {
            q = o.cell;
            goes = record {
              before = k.0;
              after = λ i. k.1 (subst (λ (l : List Cell). IsIn o.cell l) (sym (new_added s v n)) i);
            };
            has = o.has;
          },
        )
near_reached s (Take v) gone fresh near order change is p = (there, back)
  where
    there : Reaches s (Take v) p → IsIn p (v ∷ []) ⊎ IsOnSome near p
    there (inl e) = inl (inl (sym e))
    there (inr r) = inr record {
      cell = r.1.q;
      listed = subst (λ (l : List Cell). IsIn r.1.q l) (sym is)
          (filtered_true (λ c. is_among v (points_of c)) (complex s) r.1.q r.1.listed
          (among_true v (points_of r.1.q) r.1.has_p));
      has = r.1.has_e;
    }

    back : IsIn p (v ∷ []) ⊎ IsOnSome near p → Reaches s (Take v) p
    back (inl i) = inl (one_in v p i)
    back (inr o) =
        let k = filtered_from (λ c. is_among v (points_of c)) (complex s) o.cell
        (subst (λ (l : List Cell). IsIn o.cell l) is o.listed) in
        let h = among_from v (points_of o.cell) k.1 in
        inr (
          listed_inside s o.cell (listed_is_cell s o.cell order k.0) v h,
          record { q = o.cell; listed = k.0; has_p = h; has_e = o.has },
        )

-- what was found is the trial of the edit
pub found_trial :
    (s : List ℕ) (edit : Edit) (t : Trial) (before next : List Cell) → IsAscending s → t.reply ≡ reply_to s edit →
    before ≡ complex s → next ≡ complex (after s edit) → t.gone.items ≡ without_cells next before →
    t.fresh.items ≡ without_cells before next → t.near.items ≡ near_cells s edit before t.gone.items →
    IsTrialOf s edit t
found_trial s edit t before next order r b n g f k =
    let change : IsChange (complex s) (complex (after s edit)) t.gone.items t.fresh.items =
    both_out (complex s) (complex (after s edit)) t.gone.items t.fresh.items (g ∙ (λ i. without_cells (n i) (b i)))
    (f ∙ (λ i. without_cells (b i) (n i))) in
    record {
      reply = r;
      change = change;
      near = near_reached s edit t.gone.items t.fresh.items t.near.items order change
          (k ∙ ap (λ l. near_cells s edit l t.gone.items) b);
    }
