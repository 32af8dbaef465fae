-- Lists with the same members.
use Rattle.std.specs.Prelude.{◌≡◌, ℕ, zero, suc, ◌+◌, ◌<◌, ◌≤◌, List, [], ◌∷◌, ◌++◌, length, Option, None, Some}
use Rattle.std.specs.Prelude.{slice_set}
use Rattle.std.proofs.Common.{ap, append-nil, append_assoc, arith, inl, inr, refl, subst, sym, ◌∙◌}
use Rattle.std.proofs.lemmas.List.{length-append}
use Rattle.list_laws.specs.Lists.{AreDistinct, IsIn}
use Rattle.list_laws.proofs.Cited.{at_most, from_append, in_left, in_right}
use Rattle.point_order.specs.declared.cell.Cell.{Cell}
use Rattle.cell_slots.specs.Clouds.{AreCellsOf}
use Rattle.cell_slots.specs.Nets.{AreMoved, AreWithAll, cells_of_slots, slot_at}

-- none stands in both parts
pub in_two : {X : Type 0} (l m : List X) (x : X) → AreDistinct (l ++ m) → IsIn x l → IsIn x m → ⊥
in_two [] m x d i j = i
in_two (y ∷ l) m x d (inl e) j = d.0 (subst (λ k. IsIn k (l ++ m)) (sym e) (in_right x l m j))
in_two (y ∷ l) m x d (inr i) j = in_two l m x d.1 i j

-- the first part has each once
pub first_distinct : {X : Type 0} (l m : List X) → AreDistinct (l ++ m) → AreDistinct l
first_distinct [] m d = tt
first_distinct (y ∷ l) m d = (λ i. d.0 (in_left y l m i), first_distinct l m d.1)

-- so has the other
pub last_distinct : {X : Type 0} (l m : List X) → AreDistinct (l ++ m) → AreDistinct m
last_distinct [] m d = d
last_distinct (y ∷ l) m d = last_distinct l m d.1

-- two parts that are apart
pub joined : {X : Type 0} (l m : List X) → AreDistinct l → AreDistinct m → ((q : X) → IsIn q l → IsIn q m → ⊥) →
    AreDistinct (l ++ m)
joined [] m d e a = e
joined (y ∷ l) m d e a = (
  λ i. elim (from_append y l m i) [ inl j ↦ d.0 j | inr j ↦ a y (inl refl) j ],
  joined l m d.1 e (λ q i j. a q (inr i) j),
)

-- a list has its own members
pub moved_none : {X : Type 0} (l : List X) → AreMoved l l
moved_none l = record { members = λ q. (λ i. i, λ i. i); once = λ d. d }

-- moved once and again
pub moved_on : {X : Type 0} (l m n : List X) → AreMoved l m → AreMoved m n → AreMoved l n
moved_on l m n a b = record {
  members = λ q. (λ i. (b.members q).0 ((a.members q).0 i), λ i. (a.members q).1 ((b.members q).1 i));
  once = λ d. b.once (a.once d);
}

-- members behind which others stand
pub moved_first : {X : Type 0} (l m o : List X) → AreMoved l m → AreMoved (l ++ o) (m ++ o)
moved_first l m o a = record {
  members = λ q. (
    λ i. elim (from_append q l o i) [ inl j ↦ in_left q m o ((a.members q).0 j) | inr j ↦ in_right q m o j ],
    λ i. elim (from_append q m o i) [ inl j ↦ in_left q l o ((a.members q).1 j) | inr j ↦ in_right q l o j ],
  );
  once = λ d. joined m o (a.once (first_distinct l o d)) (last_distinct l o d)
      (λ q i j. in_two l o q d ((a.members q).1 i) j);
}

-- the two parts change places
pub moved_over : {X : Type 0} (l m : List X) → AreMoved (l ++ m) (m ++ l)
moved_over l m = record {
  members = λ q. (
    λ i. elim (from_append q l m i) [ inl j ↦ in_right q m l j | inr j ↦ in_left q m l j ],
    λ i. elim (from_append q m l i) [ inl j ↦ in_right q l m j | inr j ↦ in_left q l m j ],
  );
  once = λ d. joined m l (last_distinct l m d) (first_distinct l m d) (λ q i j. in_two l m q d j i);
}

-- members before which others stand
pub moved_last : {X : Type 0} (o l m : List X) → AreMoved l m → AreMoved (o ++ l) (o ++ m)
moved_last o l m a =
    moved_on (o ++ l) (l ++ o) (o ++ m) (moved_over o l)
    (moved_on (l ++ o) (m ++ o) (o ++ m) (moved_first l m o a) (moved_over m o))

-- of three parts the first two change places
pub moved_two : {X : Type 0} (l m o : List X) → AreMoved (l ++ (m ++ o)) (m ++ (l ++ o))
moved_two l m o =
    subst (λ v. AreMoved (l ++ (m ++ o)) v) (append_assoc m l o)
    (subst (λ v. AreMoved v ((m ++ l) ++ o)) (append_assoc l m o) (moved_first (l ++ m) (m ++ l) o (moved_over l m)))

-- the cells of a complex that were moved are its cells
pub moved_cells : (s : List ℕ) (l moved : List Cell) → AreMoved l moved → AreCellsOf s l → AreCellsOf s moved
moved_cells s l moved m k = record {
  solid = k.solid;
  members = λ q. (λ i. (k.members q).0 ((m.members q).1 i), λ i. (m.members q).0 ((k.members q).1 i));
  once = m.once k.once;
}

-- both parts
pub moved_both : {X : Type 0} (l l' m m' : List X) → AreMoved l l' → AreMoved m m' → AreMoved (l ++ m) (l' ++ m')
moved_both l l' m m' a b = moved_on (l ++ m) (l' ++ m) (l' ++ m') (moved_first l l' m a) (moved_last l' m m' b)

-- of four parts the inner ones change places
pub moved_inner : {X : Type 0} (a l b m : List X) → AreMoved ((a ++ l) ++ (b ++ m)) ((a ++ b) ++ (l ++ m))
moved_inner a l b m =
    subst (λ v. AreMoved v ((a ++ b) ++ (l ++ m))) (sym (append_assoc a l (b ++ m)))
    (subst (λ v. AreMoved (a ++ (l ++ (b ++ m))) v) (sym (append_assoc a b (l ++ m)))
    (moved_last a (l ++ (b ++ m)) (b ++ (l ++ m)) (moved_two l b m)))

-- ---- cells taken out, and put back

-- none is yet
pub moved_with_none : (l gone : List Cell) → gone ≡ [] → AreMoved l (l ++ gone)
moved_with_none l gone e =
    subst (λ (m : List Cell). AreMoved l m) (sym (ap (λ (g : List Cell). l ++ g) e ∙ append-nil l)) (moved_none l)

-- all are put back
pub moved_back : (l gone all : List Cell) → AreWithAll l gone all → AreMoved (l ++ gone) all
moved_back l gone all w = record {
  members = λ q. (
    λ m. (w.members q).1 (from_append q l gone m),
    λ m. elim ((w.members q).0 m) [ inl j ↦ in_left q l gone j | inr j ↦ in_right q l gone j ],
  );
  once = λ d. w.once (first_distinct l gone d) (last_distinct l gone d) (λ q i j. in_two l gone q d i j);
}

-- none were put in yet
pub with_no_more : (l fresh : List Cell) → fresh ≡ [] → AreWithAll l fresh l
with_no_more l fresh e = record {
  members = λ q. (λ m. inl m, λ m. elim m [ inl j ↦ j | inr j ↦ absurd (subst (λ (g : List Cell). IsIn q g) e j) ]);
  once = λ d f a. d;
}

-- cells that were moved are no more than before
pub moved_few : (l m gone : List Cell) → AreDistinct l → AreMoved l (m ++ gone) → length m + length gone ≤ length l
moved_few l m gone d a =
    let n = at_most (m ++ gone) l (a.once d) (λ q i. (a.members q).1 i) in
    let e = length-append m gone in
    omega (arith, n, e)

-- ---- slots

-- the cells are no more than the slots
pub few_cells : (slots : List (Option Cell)) → length (cells_of_slots slots) ≤ length slots
few_cells [] = omega arith
few_cells (None ∷ slots) = let r = few_cells slots in omega (arith, r)
few_cells (Some x ∷ slots) = let r = few_cells slots in omega (arith, r)

-- a slot without a cell
pub record HasFree (slots : List (Option Cell)) : Type 0 where
  pub i : ℕ
  pub below : i < length slots
  pub at : slot_at slots i ≡ None

-- where the cells are fewer than the slots there is one
pub some_free : (slots : List (Option Cell)) → length (cells_of_slots slots) + 1 ≤ length slots → HasFree slots
some_free [] l = absurd (omega (arith, l))
some_free (None ∷ slots) l = record { i = zero; below = omega arith; at = refl }
some_free (Some x ∷ slots) l = let r = some_free slots (omega (arith, l)) in record
    { i = suc r.i; below = (let b = r.below in omega (arith, b)); at = r.at }

-- a cell more stands in slots, where it was put into a free one
pub count_put : (slots : List (Option Cell)) (i : ℕ) (c : Cell) → i < length slots → slot_at slots i ≡ None →
    length (cells_of_slots (slice_set slots i (Some c))) ≡ length (cells_of_slots slots) + 1
count_put [] i c l e = absurd (omega (arith, l))
count_put (None ∷ slots) zero c l e = omega arith
count_put (Some x ∷ slots) zero c l e = absurd (cc e)
count_put (None ∷ slots) (suc i) c l e = count_put slots i c (omega (arith, l)) e
count_put (Some x ∷ slots) (suc i) c l e = let r = count_put slots i c (omega (arith, l)) e in omega (arith, r)

-- free slots behind have no cells
pub live_free : (slots : List (Option Cell)) → cells_of_slots (slots ++ None ∷ []) ≡ cells_of_slots slots
live_free [] = refl
live_free (None ∷ slots) = live_free slots
live_free (Some x ∷ slots) = ap (λ (l : List Cell). x ∷ l) (live_free slots)

-- nor are they where they stand in one list
pub moved_less : (l m : List Cell) → AreDistinct l → AreMoved l m → length m ≤ length l
moved_less l m d a = at_most m l (a.once d) (λ q i. (a.members q).1 i)
