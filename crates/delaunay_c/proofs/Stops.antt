-- What the status of a call for many tells of the one that was not done.
use Rattle.std.proofs.Common.{◌≡◌, ◌≢◌, ◌<◌, ◌≤◌, ◌⊎◌, ℕ, ap, arith, inl, inr, pos, refl, sym, subst, List, [], ◌∷◌}
use Rattle.std.specs.Prelude.{Option, None, Some, IfNone, IfSome, OnSome, HoldsAt}
use Rattle.mesh_handle.specs.Held.{MeshView}
use Rattle.mesh_rows.specs.declared.rows.Place.{Place}
use Rattle.mesh_rows.specs.Meshes.{HasOutside}
use Rattle.mesh_rows.specs.Rows.{LiesOutside}
use Rattle.mesh_handle.specs.declared.many.EditRow.{EditRow}
use Rattle.mesh_handle.specs.declared.refusal.Refusal.{Refusal}
use Rattle.mesh_handle.specs.declared.refusal.Refusal.TheVariants.{Memory, Outside, Empty, Full, Unknown}
use Rattle.mesh_handle.specs.Handles.{IsFull}
use Rattle.mesh_handle.specs.Many.{IsEditStop, IsLookStop, NamesOutside}
use Rattle.delaunay_c.specs.Codes.{status_after, status_number}

-- ---- which refusal a status tells

is_outside : (o : Option Refusal) → status_after o ≡ 2 → o ≡ Some Outside
is_outside (Some Outside) e = refl
is_outside _ e = absurd (omega (arith, e))

is_empty : (o : Option Refusal) → status_after o ≡ 5 → o ≡ Some Empty
is_empty (Some Empty) e = refl
is_empty _ e = absurd (omega (arith, e))

is_full : (o : Option Refusal) → status_after o ≡ 6 → o ≡ Some Full
is_full (Some Full) e = refl
is_full _ e = absurd (omega (arith, e))

is_unknown : (o : Option Refusal) → status_after o ≡ 7 → o ≡ Some Unknown
is_unknown (Some Unknown) e = refl
is_unknown _ e = absurd (omega (arith, e))

stop_of : (o : Option Refusal) (r : Refusal) (P : Refusal → Type 0) → o ≡ Some r → IfSome o P → P r
stop_of o r P e h = subst (λ (x : Option Refusal). IfSome x P) e h

-- ---- how far a call came

pub all_done : (o : Option Refusal) (P : Type 0) → IfNone o P → status_after o ≡ 0 → P
all_done None P h e = h
all_done (Some Memory) P h e = absurd (omega (arith, e))
all_done (Some Outside) P h e = absurd (omega (arith, e))
all_done (Some Empty) P h e = absurd (omega (arith, e))
all_done (Some Full) P h e = absurd (omega (arith, e))
all_done (Some Unknown) P h e = absurd (omega (arith, e))

pub some_done : (o : Option Refusal) (P : Type 0) → OnSome o P → 0 < status_after o → P
some_done None P h e = absurd (omega (arith, e))
some_done (Some r) P h e = h

-- ---- edits

-- an edit, and a place
blank_place : Place
blank_place = record { x = pos 0; y = pos 0; z = pos 0 }

blank_edit : EditRow
blank_edit = record { kind = 0; place = blank_place; to = blank_place }

module _ (o : Option Refusal) (held : Option MeshView) (edits : List EditRow) (done : ℕ)
    (h : IfSome o (λ r. HoldsAt (λ e. IsEditStop held e r) edits done)) where
  abbrev StopsEdit : Refusal → Type 0
  StopsEdit r = HoldsAt (λ e. IsEditStop held e r) edits done

  pub edit_outside : status_after o ≡ 2 → HoldsAt NamesOutside edits done
  edit_outside e = λ d. (stop_of o Outside StopsEdit (is_outside o e) h d).cause

  pub edit_empty : status_after o ≡ 5 → held ≡ None
  edit_empty e = (stop_of o Empty StopsEdit (is_empty o e) h blank_edit).cause

  pub edit_full : status_after o ≡ 6 → IsFull held
  edit_full e = (stop_of o Full StopsEdit (is_full o e) h blank_edit).cause

  pub edit_unknown : status_after o ≡ 7 → HoldsAt (λ e. 2 < e.kind) edits done
  edit_unknown e = λ d. (stop_of o Unknown StopsEdit (is_unknown o e) h d).cause

-- the place is told first
pub edit_first : (o : Option Refusal) (held : Option MeshView) (edits : List EditRow) (done : ℕ) →
    IfSome o (λ r. HoldsAt (λ e. IsEditStop held e r) edits done) → 0 < status_after o → status_after o ≢ 2 →
    HoldsAt (λ e. ¬ (NamesOutside e)) edits done
edit_first None held edits done h e n = absurd (omega (arith, e))
edit_first (Some r) held edits done h e n = λ d outside. absurd (n (ap status_number ((h d).first outside)))

pub edit_statuses : (o : Option Refusal) → (status_after o ≤ 2) ⊎ ((4 ≤ status_after o) × (status_after o ≤ 7))
edit_statuses None = inl (omega arith)
edit_statuses (Some Memory) = inl (omega arith)
edit_statuses (Some Outside) = inl (omega arith)
edit_statuses (Some Empty) = inr (omega arith, omega arith)
edit_statuses (Some Full) = inr (omega arith, omega arith)
edit_statuses (Some Unknown) = inr (omega arith, omega arith)

-- ---- looks

outside_one : (place : Place) → HasOutside (place ∷ []) → LiesOutside place
outside_one place h = elim h.1 [ inl e ↦ subst LiesOutside (sym e) h.2 | inr none ↦ absurd none ]

module _ (o : Option Refusal) (held : Option MeshView) (places : List Place) (done : ℕ)
    (h : IfSome o (λ r. HoldsAt (λ p. IsLookStop held p r) places done)) where
  abbrev StopsLook : Refusal → Type 0
  StopsLook r = HoldsAt (λ p. IsLookStop held p r) places done

  pub look_outside : status_after o ≡ 2 → HoldsAt LiesOutside places done
  look_outside e = λ d. outside_one _ (stop_of o Outside StopsLook (is_outside o e) h d).cause

  pub look_empty : status_after o ≡ 5 → held ≡ None
  look_empty e = (stop_of o Empty StopsLook (is_empty o e) h blank_place).cause

pub look_first : (o : Option Refusal) (held : Option MeshView) (places : List Place) (done : ℕ) →
    IfSome o (λ r. HoldsAt (λ p. IsLookStop held p r) places done) → status_after o ≡ 5 →
    HoldsAt (λ p. ¬ (LiesOutside p)) places done
look_first None held places done h e = absurd (omega (arith, e))
look_first (Some r) held places done h e =
    λ d outside. let is : status_number r ≡ 2 = ap status_number ((h d).first outside) in absurd (omega (arith, is, e))

pub look_statuses : (o : Option Refusal) (held : Option MeshView) (places : List Place) (done : ℕ) →
    IfSome o (λ r. HoldsAt (λ p. IsLookStop held p r) places done) →
    (status_after o ≡ 0) ⊎ (status_after o ≡ 2) ⊎ (status_after o ≡ 5)
look_statuses None held places done h = inl refl
look_statuses (Some Outside) held places done h = inr (inl refl)
look_statuses (Some Empty) held places done h = inr (inr refl)
look_statuses (Some Memory) held places done h = absurd (h blank_place).cause
look_statuses (Some Full) held places done h = absurd (h blank_place).cause
look_statuses (Some Unknown) held places done h = absurd (h blank_place).cause
