-- Slots that change.
use Rattle.std.specs.Prelude.{◌≡◌, refl, ℕ, zero, suc, ◌<◌, List, [], ◌∷◌, ◌++◌, length, Option, None, Some, slice_set}
use Rattle.std.proofs.Common.{sym, ap, subst, inl, inr, arith}
use Rattle.list_laws.proofs.Cited.{one_value}
use Rattle.point_order.specs.declared.cell.Cell.{Cell}
use Rattle.point_order.specs.Sets.{IsIn}
use Rattle.cell_slots.specs.Nets.{AreWith, IsWithout, cells_of_slots, slot_at}

-- a cell in a slot is one of the cells of the slots
pub live_in : (slots : List (Option Cell)) (i : ℕ) (c : Cell) → slot_at slots i ≡ Some c → IsIn c (cells_of_slots slots)
live_in [] i c e = absurd (cc e)
live_in (None ∷ slots) zero c e = absurd (cc e)
live_in (Some x ∷ slots) zero c e = inl (one_value x c e)
live_in (None ∷ slots) (suc i) c e = live_in slots i c e
live_in (Some x ∷ slots) (suc i) c e = inr (live_in slots i c e)

-- the slot of such a cell
pub record HasSlot (slots : List (Option Cell)) (c : Cell) : Type 0 where
  pub i : ℕ
  pub below : i < length slots
  pub at : slot_at slots i ≡ Some c

-- such a cell has a slot
pub live_from : (slots : List (Option Cell)) (c : Cell) → IsIn c (cells_of_slots slots) → HasSlot slots c
live_from [] c m = absurd m
live_from (None ∷ slots) c m = let r = live_from slots c m in record
    { i = suc r.i; below = (let b = r.below in omega (arith, b)); at = r.at }
live_from (Some x ∷ slots) c (inl e) = record { i = zero; below = omega arith; at = (cc e) }
live_from (Some x ∷ slots) c (inr m) = let r = live_from slots c m in record
    { i = suc r.i; below = (let b = r.below in omega (arith, b)); at = r.at }

-- the first is taken out
without_here : (l : List Cell) (c : Cell) → IsWithout (c ∷ l) c l
without_here l c = record {
  members = λ y. (λ k. elim k [ inl e ↦ inr e | inr j ↦ inl j ], λ k. elim k [ inl j ↦ inr j | inr e ↦ inl e ]);
  once = λ d. d;
}

-- another is
without_front : (l rest : List Cell) (c x : Cell) → IsWithout l c rest → IsWithout (x ∷ l) c (x ∷ rest)
without_front l rest c x w = record {
  members = λ y. (
    λ k. elim k [ inl f ↦ inl (inl f) | inr j ↦ elim ((w.members y).0 j) [ inl o ↦ inl (inr o) | inr e ↦ inr e ] ],
    λ k. elim k [
      | inl o ↦ elim o [ inl f ↦ inl f | inr j ↦ inr ((w.members y).1 (inl j)) ]
      | inr e ↦ inr
          ((w.members y).1 (inr e))
    ],
  );
  once = λ d. (
      let e = w.once d.1 in (
        λ j. elim j [
          | inl f ↦ d.0 (subst (λ (v : Cell). IsIn v l) (sym f) ((w.members c).1 (inr refl)))
          | inr k ↦ e.0 k
        ],
        (λ j. d.0 ((w.members x).1 (inl j)), e.1),
      ));
}

-- a cell is taken out of its slot
pub live_less : (slots : List (Option Cell)) (i : ℕ) (c : Cell) → slot_at slots i ≡ Some c →
    IsWithout (cells_of_slots slots) c (cells_of_slots (slice_set slots i None))
live_less [] i c e = absurd (cc e)
live_less (None ∷ slots) zero c e = absurd (cc e)
live_less (Some x ∷ slots) zero c e = subst
    (λ (v : Cell). IsWithout (v ∷ cells_of_slots slots) c (cells_of_slots slots))
    (sym (one_value x c e)) (without_here (cells_of_slots slots) c)
live_less (None ∷ slots) (suc i) c e = live_less slots i c e
live_less (Some x ∷ slots) (suc i) c e = without_front (cells_of_slots slots) (cells_of_slots (slice_set slots i None))
    c x
    (live_less slots i c e)

-- the cells with one more in front
pub with_front : (l m : List Cell) (c x : Cell) → AreWith l c m → AreWith (x ∷ l) c (x ∷ m)
with_front l m c x w = record {
  members = λ y. (
    λ k. elim k [ inl f ↦ inl (inl f) | inr j ↦ elim ((w.members y).0 j) [ inl o ↦ inl (inr o) | inr e ↦ inr e ] ],
    λ k. elim k [
      | inl o ↦ elim o [ inl f ↦ inl f | inr j ↦ inr ((w.members y).1 (inl j)) ]
      | inr e ↦ inr
          ((w.members y).1 (inr e))
    ],
  );
  once = λ d n. (
    λ j. elim ((w.members x).0 j) [ inl o ↦ d.0 o | inr e ↦ n (inl (sym e)) ],
    w.once d.1 (λ j. n (inr j)),
  );
}

-- a list with a cell in front is the list with it
pub with_here : (l : List Cell) (c : Cell) → AreWith l c (c ∷ l)
with_here l c = record {
  members = λ y. (λ k. elim k [ inl e ↦ inr e | inr j ↦ inl j ], λ k. elim k [ inl j ↦ inr j | inr e ↦ inl e ]);
  once = λ d n. (n, d);
}

-- put into a free slot
pub live_put : (slots : List (Option Cell)) (i : ℕ) (c : Cell) → i < length slots → slot_at slots i ≡ None →
    AreWith (cells_of_slots slots) c (cells_of_slots (slice_set slots i (Some c)))
live_put [] i c l e = absurd (omega (arith, l))
live_put (None ∷ slots) zero c l e = with_here (cells_of_slots slots) c
live_put (Some x ∷ slots) zero c l e = absurd (cc e)
live_put (None ∷ slots) (suc i) c l e = live_put slots i c (omega (arith, l)) e
live_put (Some x ∷ slots) (suc i) c l e =
    with_front (cells_of_slots slots) (cells_of_slots (slice_set slots i (Some c))) c x
    (live_put slots i c (omega (arith, l)) e)

-- with a cell put behind all it is the last of them
pub live_snoc : (slots : List (Option Cell)) (c : Cell)
    → cells_of_slots (slots ++ Some c ∷ []) ≡ cells_of_slots slots ++ c ∷ []
live_snoc [] c = refl
live_snoc (None ∷ slots) c = live_snoc slots c
live_snoc (Some x ∷ slots) c = ap (λ (l : List Cell). x ∷ l) (live_snoc slots c)

-- of two lists of slots
pub live_append : (a b : List (Option Cell)) → cells_of_slots (a ++ b) ≡ cells_of_slots a ++ cells_of_slots b
live_append [] b = refl
live_append (None ∷ a) b = live_append a b
live_append (Some x ∷ a) b = ap (λ (l : List Cell). x ∷ l) (live_append a b)
