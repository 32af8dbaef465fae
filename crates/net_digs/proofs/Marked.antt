-- Marks that are set.
use Rattle.std.specs.Prelude.{◌≡◌, ◌≢◌, refl, ℕ, zero, suc, ◌+◌, ◌<◌, ◌≤◌, List, [], ◌∷◌, ◌++◌, length, Option, Bool}
use Rattle.std.specs.Prelude.{true, false, MatchBool, None, Some, slice_index_or, slice_set}
use Rattle.std.proofs.Common.{arith, ap, inl, inr, sym, subst, ◌∙◌}
use Rattle.std.proofs.lemmas.Bool.{cases_eq, cases_lt}
use Rattle.std.proofs.lemmas.List.{get_or-set_same, get_or-set_other, get_or_past}
use Rattle.std.proofs.Math.ListN.{length-set}
use Rattle.list_laws.proofs.Cited.{at_most, distinct_push, from_append, in_left, in_right, one_value}
use Rattle.list_laws.specs.Lists.{AreDistinct}
use Rattle.point_order.specs.declared.cell.Cell.{Cell}
use Rattle.point_order.specs.Sets.{IsIn}
use Rattle.hole_laws.specs.Edits.{GoesFrom, StaysFrom}
use Rattle.cell_slots.specs.Marked.{AreSlotsMarked, ArePicked, GoesAt, IsGoneAt, MarksView, StaysAt, mark_at, set_mark}
use Rattle.cell_slots.specs.Nets.{cells_of_slots, slot_at}
use Rattle.cell_slots.specs.Parts.{InEach}
use Rattle.cell_slots.proofs.Cited.{live_in}

-- ---- cells that are picked

-- they are no more than all
pub picked_few : (l found : List Cell) → ArePicked l found → length found ≤ length l
picked_few l found a = at_most found l a.once a.among

-- none are
pub picked_none : (l found : List Cell) → found ≡ [] → ArePicked l found
picked_none l found e = subst (λ (v : List Cell). ArePicked l v) (sym e) (record { among = λ q i. absurd i; once = tt })

-- ---- where cells stand

-- a cell stands in one slot
once_at : (slots : List (Option Cell)) (i j : ℕ) (c : Cell) → AreDistinct (cells_of_slots slots) →
    slot_at slots i ≡ Some c → slot_at slots j ≡ Some c → i ≡ j
once_at [] i j c d e f = absurd (cc e)
once_at (None ∷ slots) zero j c d e f = absurd (cc e)
once_at (None ∷ slots) (suc i) zero c d e f = absurd (cc f)
once_at (None ∷ slots) (suc i) (suc j) c d e f = ap (λ (n : ℕ). suc n) (once_at slots i j c d e f)
once_at (Some x ∷ slots) zero zero c d e f = refl
once_at (Some x ∷ slots) zero (suc j) c d e f =
    absurd (d.0 (subst (λ (v : Cell). IsIn v (cells_of_slots slots)) (sym (one_value x c e)) (live_in slots j c f)))
once_at (Some x ∷ slots) (suc i) zero c d e f =
    absurd (d.0 (subst (λ (v : Cell). IsIn v (cells_of_slots slots)) (sym (one_value x c f)) (live_in slots i c e)))
once_at (Some x ∷ slots) (suc i) (suc j) c d e f = ap (λ (n : ℕ). suc n) (once_at slots i j c d.1 e f)

-- a slot with a cell is not past the end
pub slot_below : (slots : List (Option Cell)) (i : ℕ) (c : Cell) → slot_at slots i ≡ Some c → i < length slots
slot_below slots i c e = elim (cases_lt i (length slots)) [
  | inl h ↦ h
  | inr h ↦ (let z = get_or_past slots i None h in absurd (cc (e, z)))
]

-- ---- cells that are judged

-- the cell of a slot goes, or it stays
pub judged_at : (p : ℕ) (slots : List (Option Cell)) (i : ℕ) (q : Cell) (goes : Bool) (Known : Type 0) →
    slot_at slots i ≡ Some q →
    InEach p (cells_of_slots slots) (λ s. MatchBool goes (GoesFrom s p q) (StaysFrom s p q)) →
    MatchBool goes (GoesAt p slots i) (Known → StaysAt p slots i)
judged_at p slots i q true Known e h = record { cell = q; at = e; goes = h }
judged_at p slots i q false Known e h = λ k c f others s m n.
    subst (λ (y : Cell). StaysFrom s p y) (one_value q c (sym e ∙ f)) (h others s m n)

-- ---- marks

-- before any is set
pub marked_none : (Stays : Cell → Type 0) (slots : List (Option Cell)) (marks : MarksView) (found : List Cell) →
    length slots ≤ length marks.of → ((i : ℕ) → mark_at marks i < marks.stamp) → found ≡ [] →
    AreSlotsMarked Stays slots marks found
marked_none Stays slots marks found room low none =
    subst (λ (v : List Cell). AreSlotsMarked Stays slots marks v) (sym none) (record {
      room = room;
      gone = λ i c e m. (let k : mark_at marks i < marks.stamp = low i in
          let n : mark_at marks i ≡ marks.stamp = m in absurd (omega (arith, k, n)));
      apart = λ i c e n k. k;
      stays = λ i c e m. (let k : mark_at marks i < marks.stamp = low i in
          let n : mark_at marks i ≡ marks.stamp + 1 = m in absurd (omega (arith, k, n)));
      picked = picked_none (cells_of_slots slots) [] refl;
    })

-- a slot with a cell has a mark
pub mark_below : (Stays : Cell → Type 0) (slots : List (Option Cell)) (marks : MarksView) (found : List Cell) →
    AreSlotsMarked Stays slots marks found → (i : ℕ) (c : Cell) → slot_at slots i ≡ Some c → i < length marks.of
mark_below Stays slots marks found a i c e =
    let b = slot_below slots i c e in let r = a.room in omega (arith, b, r)

module _ (Stays : Cell → Type 0) (slots : List (Option Cell)) (marks : MarksView) (found : List Cell)
    (a : AreSlotsMarked Stays slots marks found) (i : ℕ) (c : Cell) (e : slot_at slots i ≡ Some c)
    (n : ¬ (IsGoneAt marks i)) (v : ℕ) where
  -- the mark at the place itself
  own : (j : ℕ) → j ≡ i → mark_at (set_mark marks i v) j ≡ v
  own j w = ap (λ (k : ℕ). slice_index_or (slice_set marks.of i v) k 0) w
      ∙ get_or-set_same marks.of i v 0 (mark_below Stays slots marks found a i c e)

  -- the others
  other : (j : ℕ) → j ≢ i → mark_at (set_mark marks i v) j ≡ mark_at marks j
  other j w = get_or-set_other marks.of i j v 0 w

  -- the cell is the one that stands there
  same : (j : ℕ) (d : Cell) → slot_at slots j ≡ Some d → j ≡ i → d ≡ c
  same j d f w = one_value d c (sym f ∙ ap (λ (k : ℕ). slot_at slots k) w ∙ e)

  -- there are as many marks
  roomy : length slots ≤ length (slice_set marks.of i v)
  roomy = (let r = a.room in let l = length-set marks.of i v in omega (arith, r, l))

-- a cell that was not found is found
pub marked_gone : (Stays : Cell → Type 0) (slots : List (Option Cell)) (marks : MarksView) (found : List Cell) →
    AreDistinct (cells_of_slots slots) → AreSlotsMarked Stays slots marks found →
    (i : ℕ) (c : Cell) → slot_at slots i ≡ Some c → ¬ (IsGoneAt marks i) →
    AreSlotsMarked Stays slots (set_mark marks i marks.stamp) (found ++ c ∷ [])
marked_gone Stays slots marks found once a i c e n = record {
  room = roomy Stays slots marks found a i c e n marks.stamp;
  gone = λ j d f m. elim (cases_eq j i) [
    | inl w ↦ in_right d found (c ∷ []) (inl (sym (there j d f w)))
    | inr w ↦ in_left d found (c ∷ []) (a.gone j d f (sym (else_where j w) ∙ m))
  ];
  apart = λ j d f m k. elim (cases_eq j i) [
    | inl w ↦ m (here j w)
    | inr w ↦ elim (from_append d found (c ∷ []) k) [
      | inl l ↦ a.apart j d f (λ z. m (else_where j w ∙ z)) l
      | inr l ↦ elim l [
        | inl g ↦ w (once_at slots j i c once (f ∙ ap (λ (x : Cell). Some x) (sym g)) e)
        | inr none ↦ none
      ]
    ]
  ];
  stays = λ j d f m. elim (cases_eq j i) [
    | inl w ↦ (let o = here j w in
        let z : mark_at (set_mark marks i marks.stamp) j ≡ marks.stamp + 1 = m in absurd (omega (arith, o, z)))
    | inr w ↦ a.stays j d f (sym (else_where j w) ∙ m)
  ];
  picked = record {
    among = λ q k. elim (from_append q found (c ∷ []) k) [
      | inl l ↦ a.picked.among q l
      | inr l ↦ elim l [
        | inl g ↦ subst (λ (x : Cell). IsIn x (cells_of_slots slots)) g (live_in slots i c e)
        | inr none ↦ absurd none
      ]
    ];
    once = distinct_push found c a.picked.once (a.apart i c e n);
  };
}
  where
    here : (j : ℕ) → j ≡ i → mark_at (set_mark marks i marks.stamp) j ≡ marks.stamp
    here = own Stays slots marks found a i c e n marks.stamp

    else_where : (j : ℕ) → j ≢ i → mark_at (set_mark marks i marks.stamp) j ≡ mark_at marks j
    else_where = other Stays slots marks found a i c e n marks.stamp

    there : (j : ℕ) (d : Cell) → slot_at slots j ≡ Some d → j ≡ i → d ≡ c
    there = same Stays slots marks found a i c e n marks.stamp

-- a cell that was not found stays
pub marked_stays : (Stays : Cell → Type 0) (slots : List (Option Cell)) (marks : MarksView) (found : List Cell) →
    AreSlotsMarked Stays slots marks found → (i : ℕ) (c : Cell) → slot_at slots i ≡ Some c → ¬ (IsGoneAt marks i) →
    Stays c → AreSlotsMarked Stays slots (set_mark marks i (marks.stamp + 1)) found
marked_stays Stays slots marks found a i c e n s = record {
  room = roomy Stays slots marks found a i c e n (marks.stamp + 1);
  gone = λ j d f m. elim (cases_eq j i) [
    | inl w ↦ (let o = here j w in
        let z : mark_at (set_mark marks i (marks.stamp + 1)) j ≡ marks.stamp = m in absurd (omega (arith, o, z)))
    | inr w ↦ a.gone j d f (sym (else_where j w) ∙ m)
  ];
  apart = λ j d f m. elim (cases_eq j i) [
    | inl w ↦ a.apart j d f (subst (λ (k : ℕ). ¬ (IsGoneAt marks k)) (sym w) n)
    | inr w ↦ a.apart j d f (λ z. m (else_where j w ∙ z))
  ];
  stays = λ j d f m. elim (cases_eq j i) [
    | inl w ↦ subst (λ (x : Cell). Stays x) (sym (there j d f w)) s
    | inr w ↦ a.stays j d f (sym (else_where j w) ∙ m)
  ];
  picked = a.picked;
}
  where
    here : (j : ℕ) → j ≡ i → mark_at (set_mark marks i (marks.stamp + 1)) j ≡ marks.stamp + 1
    here = own Stays slots marks found a i c e n (marks.stamp + 1)

    else_where : (j : ℕ) → j ≢ i → mark_at (set_mark marks i (marks.stamp + 1)) j ≡ mark_at marks j
    else_where = other Stays slots marks found a i c e n (marks.stamp + 1)

    there : (j : ℕ) (d : Cell) → slot_at slots j ≡ Some d → j ≡ i → d ≡ c
    there = same Stays slots marks found a i c e n (marks.stamp + 1)
