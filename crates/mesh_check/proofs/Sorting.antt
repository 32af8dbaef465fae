-- The order of sides, and the sides of cells in order.
use Rattle.std.specs.Prelude.{◌≡◌, Bool, true, false, refl, List, [], ◌∷◌, ◌++◌, ◌↔◌, length}
use Rattle.std.specs.Cmp.{IsTotalOrder}
use Rattle.std.specs.List.{flat_map}
use Rattle.std.specs.Ordering.{ordering_then, ordering_reverse}
use Rattle.std.specs.declared.cmp.Ordering.{Ordering}
use Rattle.std.specs.declared.cmp.Ordering.TheVariants.{Less, Equal, Greater}
use Rattle.std.proofs.Common.{append_assoc, append-nil, ap, arith, cond, get_or, inl, inr, sym, subst, ◌∙◌}
use Rattle.list_laws.proofs.Cited.{flat_from, in_flat}
use Rattle.point_order.specs.declared.cell.Cell.{Cell}
use Rattle.point_order.specs.declared.cell.Facet.{Facet}
use Rattle.point_order.specs.CellOrder.{cell_cmp}
use Rattle.point_order.specs.Facets.{facets_of}
use Rattle.point_order.specs.Sets.{IsIn}
use Rattle.point_order.proofs.Cited.{cell_before, cell_reverse, cell_same}
use Rattle.mesh_check.specs.declared.gaps.Side.{Side}
use Rattle.mesh_check.specs.Flaws.{facet_cmp}
use Rattle.mesh_check.specs.declared.gaps.Part.{Part}
use Rattle.mesh_check.specs.Sides.{side_cmp, side_of, sides_in, AreSidesIn, is_in}
use Rattle.mesh_check.proofs.Facets.{facet_before, facet_reverse, facet_same}

-- ---- the order

-- a side by its facet and its cell
abbrev side : Facet → Cell → Side
side f c = record { facet = f; cell = c }

-- two answers the other way round
then_reverse : (o r : Ordering) → ordering_then (ordering_reverse o) (ordering_reverse r) ≡ ordering_reverse
    (ordering_then o r)
then_reverse Less r = refl
then_reverse Equal r = refl
then_reverse Greater r = refl

-- the other way round the answer is the reverse
side_reverse : (x y : Side) → side_cmp x y ≡ ordering_reverse (side_cmp y x)
side_reverse x y = rw (
  facet_reverse x.facet y.facet,
  cell_reverse x.cell y.cell,
) (then_reverse (facet_cmp y.facet x.facet) (cell_cmp y.cell x.cell))

-- sides that tie are one
pub side_same : (x y : Side) → side_cmp x y ≡ Equal → x ≡ y
side_same x y e = by (facet_cmp x.facet y.facet) refl e
  where
    -- by the answer on facets
    by : (o : Ordering) → facet_cmp x.facet y.facet ≡ o → ordering_then o (cell_cmp x.cell y.cell) ≡ Equal → x ≡ y
    by Less h k = cc
    by Equal h k = both (facet_same x.facet y.facet h) (cell_same x.cell y.cell k)
      where
        -- one by both parts
        both : x.facet ≡ y.facet → x.cell ≡ y.cell → x ≡ y
        both f c = ap (λ v. side v x.cell) f ∙ ap (λ v. side y.facet v) c
    by Greater h k = cc

-- before what is before
side_before : (x y z : Side) → side_cmp x y ≡ Less → side_cmp y z ≡ Less → side_cmp x z ≡ Less
side_before x y z a b = by (facet_cmp x.facet y.facet) (facet_cmp y.facet z.facet) refl refl a b
  where
    -- by the answers on facets
    by : (o r : Ordering) → facet_cmp x.facet y.facet ≡ o → facet_cmp y.facet z.facet ≡ r →
        ordering_then o (cell_cmp x.cell y.cell) ≡ Less → ordering_then r (cell_cmp y.cell z.cell) ≡ Less →
        side_cmp x z ≡ Less
    by Less Less h k a b = rw (facet_before x.facet y.facet z.facet h k) refl
    by Less Equal h k a b = rw (subst (λ f. facet_cmp x.facet f ≡ Less) (facet_same y.facet z.facet k) h) refl
    by Less Greater h k a b = cc
    by Equal Less h k a b = rw (subst (λ f. facet_cmp f z.facet ≡ Less) (sym (facet_same x.facet y.facet h)) k) refl
    by Equal Equal h k a b = rw (ap (λ f. facet_cmp f z.facet) (facet_same x.facet y.facet h) ∙ k)
        (cell_before x.cell y.cell z.cell a b)
    by Equal Greater h k a b = cc
    by Greater r h k a b = cc

-- it is an order
pub side_order : IsTotalOrder side_cmp
side_order = record {
  antisymm = side_reverse;
  trans = side_before;
  congr =
      λ x y z h. ap (λ v. side_cmp v z) (side_same x y h);
}

-- ---- the sides of cells

-- the side of a facet, where this is one of the part
of_side : (part : Part) (f : Facet) (c : Cell) (x : Side) → IsIn x (side_of part f c) →
    (x ≡ side f c) × (is_in part f ≡ true)
of_side part f c x i = by (is_in part f) refl i
  where
    -- by the test
    by : (b : Bool) → is_in part f ≡ b → IsIn x (cond b (side f c ∷ []) []) → (x ≡ side f c) × (is_in part f ≡ true)
    by true e (inl q) = (sym q, e)
    by true e (inr none) = absurd none
    by false e i = absurd i

-- it is there
side_there : (part : Part) (f : Facet) (c : Cell) → is_in part f ≡ true → IsIn (side f c) (side_of part f c)
side_there part f c e = subst (λ (b : Bool). IsIn (side f c) (cond b (side f c ∷ []) [])) (sym e) (inl refl)

-- the sides of all cells, those of the part
pub are_sides : (part : Part) (l : List Cell) → AreSidesIn part l (flat_map (sides_in part) l)
are_sides part l x = (
  λ i. (
      let r = flat_from (sides_in part) l x i in
      let f = flat_from (λ (f : Facet). side_of part f r.0) (facets_of r.0) x r.2 in
      let o = of_side part f.0 r.0 x f.2 in
      let c = ap (λ (s : Side). s.cell) o.0 in
      let g = ap (λ (s : Side). s.facet) o.0 in (
        subst (λ c. IsIn c l) (sym c) r.1,
        subst (λ (c : Cell). IsIn x.facet (facets_of c)) (sym c)
            (subst (λ (f : Facet). IsIn f (facets_of r.0)) (sym g) f.1),
        ap (is_in part) g ∙ o.1,
      )),
  λ i. in_flat (sides_in part) l x.cell x i.0
      (in_flat (λ (f : Facet). side_of part f x.cell) (facets_of x.cell) x.facet x i.1
      (side_there part x.facet x.cell i.2)),
)

-- what has the same members as the sides
pub same_sides : (part : Part) (l : List Cell) (sides sorted : List Side) → sides ≡ flat_map (sides_in part) l →
    ((x : Side) → IsIn x sides ↔ IsIn x sorted) → AreSidesIn part l sorted
same_sides part l sides sorted e f x =
    let r = subst (λ (v : List Side). AreSidesIn part l v) (sym e) (are_sides part l) in
    (λ i. (r x).0 ((f x).1 i), λ i. (f x).0 ((r x).1 i))

-- ---- the four sides of a cell

-- five lists
in_a_row : (o a b c d : List Side) → o ++ a ++ b ++ c ++ d ≡ o ++ (a ++ (b ++ (c ++ (d ++ []))))
in_a_row o a b c d =
    append_assoc (o ++ a ++ b) c d ∙ append_assoc (o ++ a) b (c ++ d) ∙ append_assoc o a (b ++ (c ++ d))
    ∙ ap (λ (v : List Side). o ++ (a ++ (b ++ (c ++ v)))) (sym (append-nil d))

-- what is put for each of four facets
pub four_sides : (f : Facet → List Side) (facets : List Facet) (a b c d : Facet) (old : List Side) →
    length facets ≡ 4 →
    old ++ f (get_or facets 0 a) ++ f (get_or facets 1 b) ++ f (get_or facets 2 c) ++ f (get_or facets 3 d)
    ≡ old ++ flat_map f facets
four_sides f [] a b c d old n = absurd (omega (arith, n))
four_sides f (o ∷ []) a b c d old n = absurd (omega (arith, n))
four_sides f (o ∷ p ∷ []) a b c d old n = absurd (omega (arith, n))
four_sides f (o ∷ p ∷ q ∷ []) a b c d old n = absurd (omega (arith, n))
four_sides f (o ∷ p ∷ q ∷ r ∷ []) a b c d old n = in_a_row old (f o) (f p) (f q) (f r)
four_sides f (o ∷ p ∷ q ∷ r ∷ s ∷ facets) a b c d old n = absurd (omega (arith, n))

-- ---- one more cell
