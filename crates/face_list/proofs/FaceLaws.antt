-- The lists of faces are in order, and a part is listed exactly where a Full cell has it.
use Rattle.std.proofs.Common.{◌≡◌, refl, sym, subst, ◌∙◌, ℕ, inl, inr, List, [], ◌∷◌, map}
use Rattle.std.specs.List.{filter, flat_map}
use Rattle.std.specs.List.Sorted.{IsStrictlySortedBy}
use Rattle.std.specs.Ordering.{nat_cmp}
use Rattle.std.specs.Cmp.Lexicographic.{slice_cmp}
use Rattle.std.specs.declared.cmp.Ordering.TheVariants.{Less, Equal, Greater}
use Rattle.std.proofs.lemmas.Cmp.{nat_cmp_total, nat_list_cmp_total}
use Rattle.list_laws.proofs.Cited.{ascending_sorted, filtered_from, fold_comes, from_append, in_fold, in_left, in_right}
use Rattle.list_laws.proofs.Cited.{mapped_from, ordered, same_list, same_members, sorted_fold}
use Rattle.point_order.specs.declared.cell.Cell.{Cell}
use Rattle.point_order.specs.declared.cell.Cell.TheVariants.{Full, Open}
use Rattle.point_order.specs.Sets.{IsIn}
use Rattle.point_order.specs.Complex.{complex, is_full, is_open}
use Rattle.point_order.specs.Subsets.{subsets}
use Rattle.del_laws.proofs.Cited.{listed_every_point, not_both_kinds, part_inside}
use Rattle.face_list.specs.Faces.{full_cells, points_in}
use Rattle.face_list.specs.Laws.{PointsInOrder, PointIsListed, ListedIsPoint, PartsInOrder, PartIsListed, ListedIsPart}
use Rattle.face_list.specs.Laws.{PointsOfComplex}

-- ---- equal elements

-- numbers that tie are one
same_number : (x y : ℕ) → nat_cmp x y ≡ Equal → x ≡ y
same_number x y e = elim (ordered x y) [
  | inl l ↦ (let n : Less ≡ Equal = sym l.1 ∙ e in cc)
  | inr r ↦ elim r [ inl l ↦ l.0 | inr l ↦ (let n : Greater ≡ Equal = sym l.1 ∙ e in cc) ]
]

-- ---- the Full cells

-- what stands in what f gives of a Full cell of the list
record GivenBy {X : Type 0} (f : List ℕ → List X) (cells : List Cell) (p : X) : Type 0 where
  q : List ℕ
  listed : IsIn (Full q) cells
  part : IsIn p (f q)

-- no others stand in all that f gives
from_flat : {X : Type 0} (f : List ℕ → List X) (cells : List Cell) (p : X) → IsIn p (flat_map f (full_cells cells)) →
    GivenBy f cells p
from_flat f [] p i = absurd i
from_flat f (Full q ∷ cells) p i = elim (from_append p (f q) (flat_map f (full_cells cells)) i) [
  | inl j ↦ record { q = q; listed = inl refl; part = j }
  | inr j ↦ (let g = from_flat f cells p j in record { q = g.q; listed = inr g.listed; part = g.part })
]
from_flat f (Open t ∷ cells) p i = (let g = from_flat f cells p i in
    record { q = g.q; listed = inr g.listed; part = g.part })

-- and each of them does
into_flat : {X : Type 0} (f : List ℕ → List X) (cells : List Cell) (p : X) (q : List ℕ) → IsIn (Full q) cells →
    IsIn p (f q) → IsIn p (flat_map f (full_cells cells))
into_flat f [] p q l i = absurd l
into_flat f (Full r ∷ cells) p q l i = elim l [
  | inl e ↦ (let s : r ≡ q = cc in in_left p (f r) (flat_map f (full_cells cells))
      (subst (λ v. IsIn p (f v)) (sym s) i))
  | inr j ↦ in_right p (f r) (flat_map f (full_cells cells)) (into_flat f cells p q j i)
]
into_flat f (Open t ∷ cells) p q l i = elim l [ inl e ↦ cc | inr j ↦ into_flat f cells p q j i ]

-- ---- the laws

-- the points of Full cells are in order, each once
pub points_in_order : PointsInOrder
unfolding IsStrictlySortedBy
points_in_order cells = sorted_fold nat_cmp nat_cmp_total [] (flat_map (λ q. q) (full_cells cells)) tt

-- a point of a Full cell is listed
pub point_is_listed : PointIsListed
point_is_listed cells p h = fold_comes nat_cmp same_number p [] (flat_map (λ q. q) (full_cells cells))
    (into_flat (λ q. q) cells p h.q h.listed h.has)

-- and a listed one is of some Full cell
pub listed_is_point : ListedIsPoint
listed_is_point cells p i = elim (in_fold nat_cmp p [] (flat_map (λ q. q) (full_cells cells)) i) [
  | inl none ↦ absurd none
  | inr j ↦ (let g = from_flat (λ q. q) cells p j in record { q = g.q; listed = g.listed; has = g.part })
]

-- the parts with k points are in order, each once
pub parts_in_order : PartsInOrder
unfolding IsStrictlySortedBy
parts_in_order k cells = sorted_fold (slice_cmp nat_cmp) nat_list_cmp_total [] (flat_map (subsets k) (full_cells cells))
    tt

-- a part of a Full cell is listed
pub part_is_listed : PartIsListed
part_is_listed k cells p h = fold_comes (slice_cmp nat_cmp) same_list p [] (flat_map (subsets k) (full_cells cells))
    (into_flat (subsets k) cells p h.q h.listed h.part)

-- and a listed one is of some Full cell
pub listed_is_part : ListedIsPart
listed_is_part k cells p i = elim (in_fold (slice_cmp nat_cmp) p [] (flat_map (subsets k) (full_cells cells)) i) [
  | inl none ↦ absurd none
  | inr j ↦ (let g = from_flat (subsets k) cells p j in record { q = g.q; listed = g.listed; part = g.part })
]

-- ---- the complex of a set

-- a listed Full cell has points of the set
inside : (s q : List ℕ) → IsIn (Full q) (complex s) → (p : ℕ) → IsIn p q → IsIn p s
unfolding complex
inside s q m p i = elim (from_append (Full q) (map Full (filter (is_full s) (subsets 4 s)))
    (map Open (filter (is_open s) (subsets 3 s))) m) [
      | inl l ↦ (
          let r = mapped_from Full (Full q) (filter (is_full s) (subsets 4 s)) l in
          let j = filtered_from (is_full s) (subsets 4 s) r.0 r.1 in
          let e : r.0 ≡ q = same r.0 r.2 in
          part_inside 4 s r.0 j.0 p (subst (λ v. IsIn p v) (sym e) i))
      | inr l ↦ (
          let r = mapped_from Open (Full q) (filter (is_open s) (subsets 3 s)) l in
          absurd (not_both_kinds q r.0 (sym r.2)))
    ]
  where
    -- equal cells have the same points
    same : (r : List ℕ) → Full r ≡ Full q → r ≡ q
    same r e = cc

-- the points of the complex of a solid set are those of the set
pub points_of_complex : PointsOfComplex
points_of_complex s a keys solid =
    same_members (points_in (complex s)) s (ascending_sorted (points_in (complex s)) (points_in_order (complex s))) a
    (λ p i. let h = listed_is_point (complex s) p i in inside s h.q h.listed p h.has)
    (λ p i. let h = listed_every_point s p a keys solid i in
    point_is_listed (complex s) p (record { q = h.q; listed = h.listed; has = h.has }))
