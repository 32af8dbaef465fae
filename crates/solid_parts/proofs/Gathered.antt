-- Cells that are gathered by their labels.
use Rattle.std.proofs.Common.{◌≡◌, refl, sym, subst, ap, ap₂, ◌∙◌, ℕ, zero, suc, ◌<◌, ◌+◌, inl, inr, Bool, true, false}
use Rattle.std.proofs.Common.{List, [], ◌∷◌, ◌++◌, map, length, get_or, arith}
use Rattle.std.specs.Prelude.{◌⊎◌, Option, None, Some, slice_set}
use Rattle.std.specs.List.Sorted.{IsStrictlySortedBy}
use Rattle.std.specs.Ordering.{nat_cmp}
use Rattle.std.specs.Cmp.Lexicographic.{slice_cmp}
use Rattle.std.specs.declared.cmp.Ordering.TheVariants.{Less, Equal}
use Rattle.std.proofs.lemmas.Bool.{cases_lt}
use Rattle.std.proofs.lemmas.List.{get_or_append_left, map-append}
use Rattle.std.proofs.Math.Seq.{get_or-append_seam}
use Rattle.std.proofs.lemmas.Map.Keys.{Less-from_sorted}
use Rattle.list_laws.specs.Lists.{IsIn}
use Rattle.list_laws.proofs.Cited.{len_set, mapped_from, sorted_end, sorted_none}
use Rattle.point_order.specs.declared.cell.Cell.{Cell}
use Rattle.point_order.specs.declared.cell.Cell.TheVariants.{Full, Open}
use Rattle.point_order.specs.CellOrder.{cell_cmp}
use Rattle.point_order.proofs.Cited.{cell_self}
use Rattle.face_list.specs.Tables.{cell_at}
use Rattle.alpha_complex.specs.Slots.{marked_cell}
use Rattle.solid_parts.specs.Gathered.{IsGathered, IsMarkedNumber, IsGroupedIn, cells_at_place, place_at}
use Rattle.solid_parts.specs.Groups.{label_at}
use Rattle.solid_parts.specs.Parts.{InOrder, first_of}
use Rattle.list_laws.proofs.Cited.{snoc_new as in_last, snoc_old as in_front, in_snoc as in_front_or_last}
use Rattle.del_laws.proofs.Cited.{same_full}

-- What holds where the first k cells were looked at.
pub record SoFar (cells : List Cell) (marks : List Bool) (labels : List ℕ) (k : ℕ) (places : List (Option ℕ))
    (parts : List (List (List ℕ))) : Type 0 where
  pub size : length places ≡ length cells
  pub put : (i : ℕ) (q : List ℕ) → i < k → IsMarkedNumber cells marks q i → (p : ℕ) × (p < length parts) ×
      (place_at places (label_at labels i) ≡ Some p) × IsIn q (cells_at_place parts p)
  pub only : (p : ℕ) (q : List ℕ) → p < length parts → IsIn q (cells_at_place parts p) → (i : ℕ) × (i < k) ×
      IsMarkedNumber cells marks q i × (place_at places (label_at labels i) ≡ Some p)
  pub within : (l p : ℕ) → place_at places l ≡ Some p → p < length parts
  pub apart : (l m p : ℕ) → place_at places l ≡ Some p → place_at places m ≡ Some p → l ≡ m
  pub filled : (p : ℕ) → p < length parts → 0 < length (cells_at_place parts p)
  pub ordered : (p : ℕ) → p < length parts → InOrder (cells_at_place parts p)
  pub order : InOrder (map first_of parts)

-- ---- numbers of cells

-- cells stand in order by their numbers
before : (cells : List Cell) (marks : List Bool) (q r : List ℕ) (i j : ℕ) → IsStrictlySortedBy cell_cmp cells →
    IsMarkedNumber cells marks q i → IsMarkedNumber cells marks r j → i < j → j < length cells →
    slice_cmp nat_cmp q r ≡ Less
before cells marks q r i j s a b l h = ap₂ cell_cmp (sym a.cell) (sym b.cell) ∙ Less-from_sorted cell_cmp cells i j
    (Full []) s l h

-- so a cell has one number
not_itself : (cells : List Cell) (marks : List Bool) (q : List ℕ) (i j : ℕ) → IsStrictlySortedBy cell_cmp cells →
    IsMarkedNumber cells marks q i → IsMarkedNumber cells marks q j → i < j → j < length cells → ⊥
not_itself cells marks q i j s a b l h = clash (sym (cell_self (Full q)) ∙ before cells marks q q i j s a b l h)
  where
    clash : Equal ≡ Less → ⊥
    clash e = cc

-- so it has one number in the list
pub one_number : (cells : List Cell) (marks : List Bool) (q : List ℕ) (i j : ℕ) → IsStrictlySortedBy cell_cmp cells →
    IsMarkedNumber cells marks q i → IsMarkedNumber cells marks q j → i < length cells → j < length cells → i ≡ j
one_number cells marks q i j s a b h k = elim (cases_lt i j) [
  | inl l ↦ absurd (not_itself cells marks q i j s a b l k)
  | inr m ↦ elim (cases_lt j i) [
    | inl l ↦ absurd (not_itself cells marks q j i s b a l h)
    | inr n ↦ omega (arith, m, n)
  ]
]

-- ---- lists with a place set

-- at a place of a list with one set stands what was set, or what was there
set_cases : {X : Type 0} (xs : List X) (p x : ℕ) (v d : X) → p < length xs →
    ((x ≡ p) × (get_or (slice_set xs p v) x d ≡ v)) ⊎ (get_or (slice_set xs p v) x d ≡ get_or xs x d)
set_cases [] p x v d h = absurd (omega (arith, h))
set_cases (y ∷ xs) zero zero v d h = inl (refl, refl)
set_cases (y ∷ xs) zero (suc x) v d h = inr refl
set_cases (y ∷ xs) (suc p) zero v d h = inr refl
set_cases (y ∷ xs) (suc p) (suc x) v d h = elim (set_cases xs p x v d (omega (arith, h)))
    [ inl a ↦ inl (ap suc a.0, a.1) | inr b ↦ inr b ]

-- where one more is put behind, the first stays
first_stays : (part : List (List ℕ)) (q : List ℕ) → 0 < length part → first_of (part ++ q ∷ []) ≡ first_of part
first_stays [] q h = absurd (omega (arith, h))
first_stays (r ∷ part) q h = refl

-- so the first cells of all parts stay
firsts_stay : (parts : List (List (List ℕ))) (p : ℕ) (q : List ℕ) → p < length parts →
    0 < length (cells_at_place parts p) →
    map first_of (slice_set parts p (cells_at_place parts p ++ q ∷ [])) ≡ map first_of parts
firsts_stay [] p q h l = absurd (omega (arith, h))
firsts_stay (y ∷ parts) zero q h l = ap (λ (v : List ℕ). v ∷ map first_of parts) (first_stays y q l)
firsts_stay (y ∷ parts) (suc p) q h l = ap (λ (v : List (List ℕ)). first_of y ∷ v)
    (firsts_stay parts p q (omega (arith, h)) l)

-- a part that has cells has its first
pub has_first : (part : List (List ℕ)) → 0 < length part → IsIn (first_of part) part
has_first [] h = absurd (omega (arith, h))
has_first (q ∷ part) h = inl refl

-- a part with a cell behind it has cells
more_than_none : (part : List (List ℕ)) (q : List ℕ) → 0 < length (part ++ q ∷ [])
more_than_none [] q = omega arith
more_than_none (r ∷ part) q = omega arith

-- the place of a member
pub place_of : {X : Type 0} (xs : List X) (x d : X) → IsIn x xs → (p : ℕ) × (p < length xs) × (get_or xs p d ≡ x)
place_of [] x d i = absurd i
place_of (y ∷ xs) x d (inl e) = (zero, omega arith, e)
place_of (y ∷ xs) x d (inr i) = let r = place_of xs x d i in (suc r.0, omega (arith, r.1), r.2)

-- ---- no cell yet

-- before the first cell there is no part
pub starts_empty : (cells : List Cell) (marks : List Bool) (labels : List ℕ) (places : List (Option ℕ)) →
    length places ≡ length cells → ((l : ℕ) → place_at places l ≡ None) → SoFar cells marks labels 0 places []
starts_empty cells marks labels places n none = record {
  size = n;
  put = λ i q l. absurd (omega (arith, l));
  only = λ p q l. absurd (omega (arith, l));
  within = λ l p e. absurd (not_both (sym (none l) ∙ e));
  apart = λ l m p e. absurd (not_both (sym (none l) ∙ e));
  filled = λ p l. absurd (omega (arith, l));
  ordered = λ p l. absurd (omega (arith, l));
  order = sorted_none (slice_cmp nat_cmp);
}
  where
    not_both : {p : ℕ} → None ≡ Some p → ⊥
    not_both e = cc

-- ---- a cell that is not marked, or Open

-- a number below the next is below this, or it
below_or_at : (i k : ℕ) → i < k + 1 → (i < k) ⊎ (i ≡ k)
below_or_at i k l = elim (cases_lt i k) [ inl h ↦ inl h | inr h ↦ inr (omega (arith, l, h)) ]

-- a cell that is not marked, or Open, changes nothing
pub passed : (cells : List Cell) (marks : List Bool) (labels : List ℕ) (k : ℕ) (places : List (Option ℕ))
    (parts : List (List (List ℕ))) → ((q : List ℕ) → IsMarkedNumber cells marks q k → ⊥) →
    SoFar cells marks labels k places parts → SoFar cells marks labels (k + 1) places parts
passed cells marks labels k places parts none d = record {
  size = d.size;
  put = λ i q l n. elim (below_or_at i k l) [
    | inl h ↦ d.put i q h n
    | inr e ↦ absurd
        (none q (subst (IsMarkedNumber cells marks q) e n))
  ];
  only = λ p q l i. let r = d.only p q l i in (r.0, omega (arith, r.1), r.2, r.3);
  within = d.within;
  apart = d.apart;
  filled = d.filled;
  ordered = d.ordered;
  order = d.order;
}

-- ---- a cell behind those of its label

-- a marked cell whose label has a part comes last in it
put_behind :
    (cells : List Cell) (marks : List Bool) (labels : List ℕ) (k : ℕ) (places : List (Option ℕ))
    (parts : List (List (List ℕ))) (q : List ℕ) (p : ℕ) → IsStrictlySortedBy cell_cmp cells → k < length cells →
    IsMarkedNumber cells marks q k → place_at places (label_at labels k) ≡ Some p →
    SoFar cells marks labels k places parts →
    SoFar cells marks labels (k + 1) places (slice_set parts p (cells_at_place parts p ++ q ∷ []))
put_behind cells marks labels k places parts q p s inside x e d = record {
  size = d.size;
  put = λ i r l n. elim (below_or_at i k l) [
    | inl h ↦ let o = d.put i r h n in (o.0, up o.0 o.1, o.2, kept o.0 r o.3)
    | inr f ↦ (
      p,
      up p there,
      ap (λ m. place_at places (label_at labels m)) f ∙ e,
      subst (λ (v : List ℕ). IsIn v (cells_at_place new p)) (same_full q r (sym x.cell ∙ ap (cell_at cells) (sym f)
          ∙ n.cell))
          last,
    )
  ];
  only = λ y r l i. elim (set_cases parts p y added [] there) [
    | inl a ↦ elim (in_front_or_last (cells_at_place parts p) q r (subst (λ (v : List (List ℕ)). IsIn r v) a.1 i)) [
      | inl j ↦ let o = d.only p r there j in (o.0, omega (arith, o.1), o.2, o.3 ∙ ap Some (sym a.0))
      | inr f ↦ (k, omega arith, subst (λ (v : List ℕ). IsMarkedNumber cells marks v k) f x, e ∙ ap Some (sym a.0))
    ]
    | inr b ↦ let o = d.only y r (down y l) (subst (λ (v : List (List ℕ)). IsIn r v) b i) in
        (o.0, omega (arith, o.1), o.2, o.3)
  ];
  within = λ l y f. up y (d.within l y f);
  apart = d.apart;
  filled = λ y l. elim (set_cases parts p y added [] there) [
    | inl a ↦ subst (λ (v : List (List ℕ)). 0 < length v) (sym a.1) (more_than_none (cells_at_place parts p) q)
    | inr b ↦ subst (λ (v : List (List ℕ)). 0 < length v) (sym b) (d.filled y (down y l))
  ];
  ordered = λ y l. elim (set_cases parts p y added [] there) [
    | inl a ↦ subst InOrder (sym a.1) (sorted_end (slice_cmp nat_cmp) (cells_at_place parts p) q (d.ordered p there)
        (λ r i. let o = d.only p r there i in before cells marks r q o.0 k s o.2 x o.1 inside))
    | inr b ↦ subst InOrder (sym b) (d.ordered y (down y l))
  ];
  order = subst InOrder (sym (firsts_stay parts p q there (d.filled p there))) d.order;
}
  where
    added : List (List ℕ)
    added = cells_at_place parts p ++ q ∷ []

    new : List (List (List ℕ))
    new = slice_set parts p added

    there : p < length parts
    there = d.within (label_at labels k) p e

    up : (y : ℕ) → y < length parts → y < length new
    up y l = subst (λ n. y < n) (sym (len_set parts p added)) l

    down : (y : ℕ) → y < length new → y < length parts
    down y l = subst (λ n. y < n) (len_set parts p added) l

    kept : (y : ℕ) (r : List ℕ) → IsIn r (cells_at_place parts y) → IsIn r (cells_at_place new y)
    kept y r i = elim (set_cases parts p y added [] there) [
      | inl a ↦ subst (λ (v : List (List ℕ)). IsIn r v) (sym a.1) (in_front (cells_at_place parts p) q r
          (subst (λ n. IsIn r (cells_at_place parts n)) a.0 i))
      | inr b ↦ subst (λ (v : List (List ℕ)). IsIn r v) (sym b) i
    ]

    at_place : (xs : List (List (List ℕ))) (y : ℕ) (v : List (List ℕ)) → y < length xs →
        cells_at_place (slice_set xs y v) y ≡ v
    at_place [] y v h = absurd (omega (arith, h))
    at_place (z ∷ xs) zero v h = refl
    at_place (z ∷ xs) (suc y) v h = at_place xs y v (omega (arith, h))

    last : IsIn q (cells_at_place new p)
    last = elim (set_cases parts p p added [] there) [
      | inl a ↦ subst (λ (v : List (List ℕ)). IsIn q v) (sym a.1) (in_last (cells_at_place parts p) q)
      | inr b ↦ subst (λ (v : List (List ℕ)). IsIn q v) (sym (at_place parts p added there))
          (in_last (cells_at_place parts p) q)
    ]

-- ---- a cell that is the first of its label

-- and one whose label has none begins a part, which comes last
put_alone :
    (cells : List Cell) (marks : List Bool) (labels : List ℕ) (k : ℕ) (places : List (Option ℕ))
    (parts : List (List (List ℕ))) (q : List ℕ) → IsStrictlySortedBy cell_cmp cells → k < length cells →
    IsMarkedNumber cells marks q k → label_at labels k < length places → place_at places (label_at labels k) ≡ None →
    SoFar cells marks labels k places parts →
    SoFar cells marks labels (k + 1) (slice_set places (label_at labels k) (Some (length parts)))
    (parts ++ (q ∷ []) ∷ [])
put_alone cells marks labels k places parts q s inside x room e d = record {
  size = len_set places label (Some n) ∙ d.size;
  put = λ i r l m. elim (below_or_at i k l) [
    | inl h ↦ let o = d.put i r h m in (
      o.0,
      more o.0 o.1,
      still (label_at labels i) o.0 o.2,
      subst (λ (v : List (List ℕ)). IsIn r v) (sym (old_part o.0 o.1)) o.3,
    )
    | inr f ↦ (
      n,
      itself,
      ap (λ y. place_at new_places (label_at labels y)) f ∙ here,
      subst (λ (v : List (List ℕ)). IsIn r v) (sym new_part) (inl (same_full q r
          (sym x.cell ∙ ap (cell_at cells) (sym f) ∙ m.cell))),
    )
  ];
  only = λ y r l i. elim (below_or_at y n (subst (λ m. y < m) count l)) [
    | inl h ↦ let o = d.only y r h (subst (λ (v : List (List ℕ)). IsIn r v) (old_part y h) i) in
        (o.0, omega (arith, o.1), o.2, still (label_at labels o.0) y o.3)
    | inr f ↦ let g = single r (subst (λ (v : List (List ℕ)). IsIn r v) (ap (cells_at_place new) f ∙ new_part) i) in
        (k, omega arith, subst (λ (v : List ℕ). IsMarkedNumber cells marks v k) g x, here ∙ ap Some (sym f))
  ];
  within = λ l y f. elim (set_cases places label l (Some n) None room) [
    | inl a ↦ subst (λ m. m < length new) (same_some n y (sym a.1 ∙ f)) itself
    | inr b ↦ more y (d.within l y (sym b ∙ f))
  ];
  apart = λ l m y f g. elim (set_cases places label l (Some n) None room) [
    | inl a ↦ elim (set_cases places label m (Some n) None room) [
      | inl b ↦ a.0 ∙ sym b.0
      | inr b ↦ absurd (not_old m y (same_some n y (sym a.1 ∙ f)) (sym b ∙ g))
    ]
    | inr a ↦ elim (set_cases places label m (Some n) None room) [
      | inl b ↦ absurd (not_old l y (same_some n y (sym b.1 ∙ g)) (sym a ∙ f))
      | inr b ↦ d.apart l m y (sym a ∙ f) (sym b ∙ g)
    ]
  ];
  filled = λ y l. elim (below_or_at y n (subst (λ m. y < m) count l)) [
    | inl h ↦ subst (λ (v : List (List ℕ)). 0 < length v) (sym (old_part y h)) (d.filled y h)
    | inr f ↦ subst (λ (v : List (List ℕ)). 0 < length v) (sym (ap (cells_at_place new) f ∙ new_part)) (omega arith)
  ];
  ordered = λ y l. elim (below_or_at y n (subst (λ m. y < m) count l)) [
    | inl h ↦ subst InOrder (sym (old_part y h)) (d.ordered y h)
    | inr f ↦ subst InOrder (sym (ap (cells_at_place new) f ∙ new_part)) (sorted_end (slice_cmp nat_cmp) [] q
        (sorted_none (slice_cmp nat_cmp)) (λ y i. absurd i))
  ];
  order = subst InOrder (sym (map-append first_of parts ((q ∷ []) ∷ [])))
      (sorted_end (slice_cmp nat_cmp) (map first_of parts) q d.order
      (λ y i. earlier y (mapped_from first_of y parts i)));
}
  where
    label : ℕ
    label = label_at labels k

    n : ℕ
    n = length parts

    new : List (List (List ℕ))
    new = parts ++ (q ∷ []) ∷ []

    new_places : List (Option ℕ)
    new_places = slice_set places label (Some n)

    count_of : (xs : List (List (List ℕ))) → length (xs ++ (q ∷ []) ∷ []) ≡ length xs + 1
    count_of [] = refl
    count_of (y ∷ xs) = ap suc (count_of xs) ∙ on (length xs)
      where
        on : (m : ℕ) → suc (m + 1) ≡ suc m + 1
        on m = omega arith

    count : length new ≡ n + 1
    count = count_of parts

    more : (y : ℕ) → y < n → y < length new
    more y l = subst (λ m. y < m) (sym count) (omega (arith, l))

    itself : n < length new
    itself = subst (λ m. n < m) (sym count) (omega arith)

    old_part : (y : ℕ) → y < n → cells_at_place new y ≡ cells_at_place parts y
    old_part y l = get_or_append_left parts ((q ∷ []) ∷ []) [] y l

    new_part : cells_at_place new n ≡ q ∷ []
    new_part = get_or-append_seam parts (q ∷ []) [] []

    at_place : (xs : List (Option ℕ)) (y : ℕ) (v : Option ℕ) → y < length xs → place_at (slice_set xs y v) y ≡ v
    at_place [] y v h = absurd (omega (arith, h))
    at_place (z ∷ xs) zero v h = refl
    at_place (z ∷ xs) (suc y) v h = at_place xs y v (omega (arith, h))

    here : place_at new_places label ≡ Some n
    here = at_place places label (Some n) room

    not_both : {y : ℕ} → None ≡ Some y → ⊥
    not_both f = cc

    same_some : (y z : ℕ) → Some y ≡ Some z → y ≡ z
    same_some y z f = cc

    still : (l y : ℕ) → place_at places l ≡ Some y → place_at new_places l ≡ Some y
    still l y f = elim (set_cases places label l (Some n) None room) [
      | inl a ↦ absurd (not_both (sym e ∙ ap (place_at places) (sym a.0) ∙ f))
      | inr b ↦ b ∙ f
    ]

    not_old : (l y : ℕ) → n ≡ y → place_at places l ≡ Some y → ⊥
    not_old l y f g = past y f (d.within l y g)
      where
        past : (y : ℕ) → n ≡ y → y < n → ⊥
        past y f l = omega (arith, f, l)

    single : (r : List ℕ) → IsIn r (q ∷ []) → q ≡ r
    single r (inl f) = f
    single r (inr i) = absurd i

    earlier : (y : List ℕ) → ((part : List (List ℕ)) × IsIn part parts × (first_of part ≡ y)) →
        slice_cmp nat_cmp y q ≡ Less
    earlier y r =
        let p = place_of parts r.0 [] r.1 in
        let first = subst (λ (v : List ℕ). IsIn v (cells_at_place parts p.0)) (ap first_of p.2 ∙ r.2)
        (has_first (cells_at_place parts p.0) (d.filled p.0 p.1)) in
        let o = d.only p.0 y p.1 first in
        before cells marks y q o.0 k s o.2 x o.1 inside

-- a cell that is put
pub put_next :
    (cells : List Cell) (marks : List Bool) (labels : List ℕ) (k : ℕ) (places new_places : List (Option ℕ))
    (parts new : List (List (List ℕ))) (q : List ℕ) → IsStrictlySortedBy cell_cmp cells → k < length cells →
    IsMarkedNumber cells marks q k → label_at labels k < length places → SoFar cells marks labels k places parts →
    IsGroupedIn (label_at labels k) q places new_places parts new → SoFar cells marks labels (k + 1) new_places new
put_next cells marks labels k places new_places parts new q s inside x room d (inl t) =
    subst (λ (v : List (Option ℕ)). SoFar cells marks labels (k + 1) v new) (sym t.2)
    (subst (SoFar cells marks labels (k + 1) places) (sym t.3) (put_behind cells marks labels k places parts q t.0 s
    inside x t.1 d))
put_next cells marks labels k places new_places parts new q s inside x room d (inr t) =
    subst (λ (v : List (Option ℕ)). SoFar cells marks labels (k + 1) v new) (sym t.1)
    (subst (SoFar cells marks labels (k + 1) (slice_set places (label_at labels k) (Some (length parts)))) (sym t.2)
    (put_alone cells marks labels k places parts q s inside x room t.0 d))

-- ---- all cells

-- once all cells were looked at they are gathered by their labels
pub gathered : (cells : List Cell) (marks : List Bool) (labels : List ℕ) (places : List (Option ℕ))
    (parts : List (List (List ℕ))) → IsStrictlySortedBy cell_cmp cells →
    SoFar cells marks labels (length cells) places parts → IsGathered cells marks labels (length cells) parts
gathered cells marks labels places parts s d = record {
  put = λ i q l n. let o = d.put i q l n in (o.0, o.1, o.3);
  only = λ p q l i. let o = d.only p q l i in (o.0, o.1, o.2);
  once = λ p y q l h x z.
      let o = d.only p q l x in
      let b = d.only y q h z in
      same_some p y (sym o.3 ∙ ap (λ v. place_at places (label_at labels v))
      (one_number cells marks q o.0 b.0 s o.2 b.2 o.1 b.1) ∙ b.3);
  together = λ p i j q r l h k m n x t.
      let o = d.only p q l x in
      let y = d.put j r k n in
      let same : place_at places (label_at labels i) ≡ Some p = ap (λ v. place_at places (label_at labels v))
      (one_number cells marks q i o.0 s m o.2 h o.1) ∙ o.3 in
      subst (λ v. IsIn r (cells_at_place parts v)) (same_some y.0 p (sym y.2 ∙ ap (place_at places) (sym t)
      ∙ same)) y.3;
  apart = λ p i j q r l h k m n x y.
      let o = d.only p q l x in
      let z = d.only p r l y in
      ap (label_at labels) (one_number cells marks q i o.0 s m o.2 h o.1) ∙ d.apart (label_at labels o.0)
      (label_at labels z.0) p o.3 z.3
      ∙ ap (label_at labels) (sym (one_number cells marks r j z.0 s n z.2 k z.1));
  filled = d.filled;
  ordered = d.ordered;
  order = d.order;
}
  where
    same_some : (y z : ℕ) → Some y ≡ Some z → y ≡ z
    same_some y z f = cc

-- ---- as the loop tells it

-- what is told of a cell and its mark
told_some : (c : Cell) (m : Bool) (q : List ℕ) → marked_cell c m ≡ Some q → (m ≡ true) × (c ≡ Full q)
told_some (Full r) true q e = (refl, ap Full (same_some r q e))
  where
    same_some : (r q : List ℕ) → Some r ≡ Some q → r ≡ q
    same_some r q e = cc
told_some (Full r) false q e = cc
told_some (Open t) m q e = cc

-- a cell that is told is a marked Full one, with its number
pub number_told : (cells : List Cell) (marks : List Bool) (k : ℕ) (q : List ℕ) →
    marked_cell (cell_at cells k) (get_or marks k false) ≡ Some q → IsMarkedNumber cells marks q k
number_told cells marks k q e = let t = told_some (cell_at cells k) (get_or marks k false) q e in record
    { marked = t.0; cell = t.1 }

-- where none is told the cell is not marked, or Open
told_none : (c : Cell) (m : Bool) (q : List ℕ) → marked_cell c m ≡ None → m ≡ true → c ≡ Full q → ⊥
told_none (Full r) true q e f g = cc
told_none (Full r) false q e f g = cc
told_none (Open t) m q e f g = cc

-- so no Full cell has this number
pub no_number_told : (cells : List Cell) (marks : List Bool) (k : ℕ) →
    marked_cell (cell_at cells k) (get_or marks k false) ≡ None → (q : List ℕ) → IsMarkedNumber cells marks q k → ⊥
no_number_told cells marks k e q n = told_none (cell_at cells k) (get_or marks k false) q e n.marked n.cell
