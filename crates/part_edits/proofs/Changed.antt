-- What one edit makes of a part, and its reply.
use Rattle.std.specs.Prelude.{◌≡◌, ℕ, true, false, List, [], ◌∷◌, ◌++◌}
use Rattle.std.proofs.Common.{ap, inl, inr, refl, subst, sym, ◌∙◌}
use Rattle.list_laws.proofs.Cited.{among_from, not_among}
use Rattle.point_order.specs.Coordinates.{IsKey}
use Rattle.point_order.specs.declared.cell.Cell.{Cell}
use Rattle.point_order.specs.Sets.{IsIn, is_among}
use Rattle.edit_history.specs.declared.history.Edit.{Edit}
use Rattle.edit_history.specs.declared.history.Edit.TheVariants.{Add, Take}
use Rattle.edit_history.specs.declared.history.Reply.{Reply}
use Rattle.edit_history.specs.declared.history.Reply.TheVariants.{Duplicate, Flat, Inserted, Missing, Removed}
use Rattle.edit_history.specs.Edits.{after, arrived, changed, point_of, reply_to}
use Rattle.edit_history.proofs.Cited.{duplicate, flat, inserts, missing, reply_there}
use Rattle.hole_laws.specs.Edits.{IsNew}
use Rattle.cell_slots.specs.Clouds.{AreCellsOf}
use Rattle.net_digs.specs.Linked.{ArePartLacking, ArePartWith}
use Rattle.cell_slots.specs.Parts.{Grow}
use Rattle.part_edits.specs.Changes.{ArePartKnown, IsMade}
use Rattle.part_edits.specs.Made.{AreMade, Made}
use Rattle.part_edits.specs.Takes.{IsTakenBeside}

-- what is left by the reply
left_by : (s : List ℕ) (edit : Edit) (r : Reply) → reply_to s edit ≡ r →
    changed (arrived s edit r) (point_of edit) r ≡ after s edit
left_by s edit r e = sym (ap (λ (x : Reply). changed (arrived s edit x) (point_of edit) x) e)

module _ (known : List ℕ) (p : ℕ) where
  -- ---- what has to hold where the point is there, or is not

  pub part_with : (cells : List Cell) → ArePartKnown known (Take p) cells → is_among p known ≡ true →
      ArePartWith p cells
  part_with cells k e = record {
    others = k.others;
    set = k.set;
    cells_of = k.cells_of;
    has = among_from p k.set (sym (k.agree p (inl refl)) ∙ e);
  }

  pub part_lacking : (cells : List Cell) → ArePartKnown known (Add p) cells → IsKey p → is_among p known ≡ false →
      ArePartLacking p cells
  part_lacking cells k b e = record {
    others = k.others;
    set = k.set;
    cells_of = k.cells_of;
    new = record { key = b; absent = not_among k.set p (sym (k.agree p (inl refl)) ∙ e) };
  }

  -- ---- the replies

  pub made_duplicate : (cells : List Cell) → is_among p known ≡ true → IsMade known (Add p) Duplicate cells cells
  made_duplicate cells e others s k a =
      let r = duplicate s p (sym (a p (inl refl)) ∙ e) in
      (sym r, subst (λ (t : List ℕ). AreCellsOf t (cells ++ others)) (left_by s (Add p) Duplicate r) k)

  pub made_inserted : (old new : List Cell) → IsKey p → is_among p known ≡ false → Grow (p ∷ []) old new →
      IsMade known (Add p) Inserted old new
  made_inserted old new b e g others s k a =
      let h : is_among p s ≡ false = sym (a p (inl refl)) ∙ e in
      let r = inserts s p h in
      let n : IsNew s p = record { key = b; absent = not_among s p h } in (
        sym r,
        subst (λ (t : List ℕ). AreCellsOf t (new ++ others)) (left_by s (Add p) Inserted r)
            (g others s k (record {
              each = λ q i. elim i [ inl d ↦ subst (λ (v : ℕ). IsNew s v) d n | inr none ↦ absurd none ];
              once = (λ m. m, tt);
            })),
      )

  pub made_missing : (cells : List Cell) → is_among p known ≡ false → IsMade known (Take p) Missing cells cells
  made_missing cells e others s k a =
      let r = missing s p (sym (a p (inl refl)) ∙ e) in
      (sym r, subst (λ (t : List ℕ). AreCellsOf t (cells ++ others)) (left_by s (Take p) Missing r) k)

  pub made_removed : (old new : List Cell) → is_among p known ≡ true → ((others : List Cell) (s : List ℕ) →
      AreCellsOf s (old ++ others) → IsIn p s → IsTakenBeside others s p true new) →
      IsMade known (Take p) Removed old new
  made_removed old new e f others s k a =
      let h : is_among p s ≡ true = sym (a p (inl refl)) ∙ e in
      let t = f others s k (among_from p s h) in
      let r = reply_there s p h t.0 in
      (sym r, subst (λ (t : List ℕ). AreCellsOf t (new ++ others)) (left_by s (Take p) Removed r) t.1)

  pub made_flat : (old new : List Cell) → is_among p known ≡ true → ((others : List Cell) (s : List ℕ) →
      AreCellsOf s (old ++ others) → IsIn p s → IsTakenBeside others s p false new) →
      IsMade known (Take p) Flat old new
  made_flat old new e f others s k a =
      let h : is_among p s ≡ true = sym (a p (inl refl)) ∙ e in
      let t = f others s k (among_from p s h) in
      let r = flat s p h t.0 in
      (sym r, subst (λ (t : List ℕ). AreCellsOf t (new ++ others)) (left_by s (Take p) Flat r) t.1)

-- one edit is one line that was made
pub made_one : (known : List ℕ) (m : Made) (old new : List Cell) → IsMade known m.0.1 m.1 old new →
    AreMade known (m ∷ []) old new
made_one known m old new f others s k a = (let r = f others s k (a m (inl refl)) in ((r.0, tt), r.1))
