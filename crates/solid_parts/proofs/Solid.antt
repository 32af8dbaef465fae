-- What is gathered by labels are the solid parts.
use Rattle.std.proofs.Common.{◌≡◌, refl, sym, subst, ap, ◌∙◌, ℕ, zero, suc, ◌<◌, inl, inr, Bool, true, false, List, []}
use Rattle.std.proofs.Common.{◌∷◌, ◌++◌, map, length, get_or, arith}
use Rattle.std.specs.Prelude.{IfOk, Result, Ok, Err}
use Rattle.std.specs.List.{filter, list_all}
use Rattle.std.specs.List.Sorted.{IsStrictlySortedBy}
use Rattle.std.specs.Ordering.{nat_cmp}
use Rattle.std.specs.Cmp.Lexicographic.{slice_cmp}
use Rattle.std.specs.declared.cmp.Ordering.TheVariants.{Less, Equal}
use Rattle.std.proofs.lemmas.List.{get_or-map}
use Rattle.list_laws.specs.Lists.{AreDistinct, IsIn}
use Rattle.list_laws.proofs.Cited.{all_from, all_true, among_from, among_true, at_in, each_by, each_of_all}
use Rattle.list_laws.proofs.Cited.{filtered_from, filtered_true, flat_from, from_append, in_flat, mapped_from}
use Rattle.list_laws.proofs.Cited.{mapped_true}
use Rattle.point_order.specs.declared.cell.Cell.{Cell}
use Rattle.point_order.specs.declared.cell.Cell.TheVariants.{Full, Open}
use Rattle.point_order.specs.CellOrder.{cell_cmp}
use Rattle.point_order.specs.Complex.{complex, is_full}
use Rattle.point_order.specs.Facets.{points_of}
use Rattle.point_order.specs.Sets.{IsAscending, is_among}
use Rattle.point_order.specs.Subsets.{subsets}
use Rattle.point_order.proofs.Cited.{cell_self}
use Rattle.del_laws.proofs.Cited.{complex_is_sorted, part_ascending, part_inside, part_true}
use Rattle.face_list.specs.Faces.{cells_with, full_cells, parts_in}
use Rattle.face_list.specs.Seen.{FaceLists}
use Rattle.face_list.specs.Tables.{cell_at, cells_numbered}
use Rattle.face_list.proofs.Cited.{full_cell_is_listed, listed_is_full_cell, listed_is_part, part_is_listed}
use Rattle.face_list.proofs.Cited.{part_length}
use Rattle.alpha_complex.specs.Admitted.{is_within}
use Rattle.alpha_complex.specs.Condition.{AreFacesOf}
use Rattle.alpha_complex.specs.Judged.{is_small_cell}
use Rattle.alpha_complex.specs.Shapes.{shape_of}
use Rattle.alpha_complex.proofs.Cited.{cells_are}
use Rattle.solid_parts.specs.Gathered.{IsGathered, IsMarkedNumber, cells_at_place}
use Rattle.solid_parts.specs.Groups.{AreTogether, IsMarkedAt, label_at}
use Rattle.solid_parts.specs.Joined.{AreChained, IsChain, ShareTriple}
use Rattle.solid_parts.specs.Labels.{HaveOneLabel, AreBeside, AreLabels, IsPath}
use Rattle.solid_parts.specs.Parts.{AreSolidParts, InOrder, cells_of_parts}
use Rattle.solid_parts.proofs.Gathered.{one_number, place_of}

-- ---- lists of lists

-- a list in order has no cell twice
pub distinct_in_order : (part : List (List ℕ)) → InOrder part → AreDistinct part
unfolding IsStrictlySortedBy
distinct_in_order [] s = tt
distinct_in_order (q ∷ part) s = (
  λ i. clash (sym (cell_self (Full q)) ∙ each_by (λ y. slice_cmp nat_cmp q y ≡ Less) part s.0 q i),
  distinct_in_order part s.1,
)
  where
    clash : Equal ≡ Less → ⊥
    clash e = cc

-- two lists that have none twice and none in common have none twice together
distinct_append : {X : Type 0} (l m : List X) → AreDistinct l → AreDistinct m → ((x : X) → IsIn x l → IsIn x m → ⊥) →
    AreDistinct (l ++ m)
distinct_append [] m a b f = b
distinct_append (x ∷ l) m a b f = (
  λ i. elim (from_append x l m i) [ inl j ↦ a.0 j | inr j ↦ f x (inl refl) j ],
  distinct_append l m a.1 b (λ y i j. f y (inr i) j),
)

-- lists of which each has no cell twice, and no two a cell in common
distinct_flat :
    (parts : List (List (List ℕ))) → ((p : ℕ) → p < length parts → AreDistinct (cells_at_place parts p)) →
    ((p y : ℕ) (q : List ℕ) → p < length parts → y < length parts → IsIn q (cells_at_place parts p) →
    IsIn q (cells_at_place parts y) → p ≡ y) → AreDistinct (cells_of_parts parts)
distinct_flat [] d f = tt
distinct_flat (part ∷ parts) d f =
    distinct_append part (cells_of_parts parts) (d 0 (omega arith))
    (distinct_flat parts (λ p l. d (suc p) (omega (arith, l))) (λ p y q l h i j. less
    (f (suc p) (suc y) q (omega (arith, l)) (omega (arith, h)) i j)))
    (λ q i j.
    let r = flat_from (λ v. v) parts q j in
    let p = place_of parts r.0 [] r.1 in
    never p.0 (f 0 (suc p.0) q (omega arith) (omega (arith, p.1)) i
    (subst (λ (v : List (List ℕ)). IsIn q v) (sym p.2) r.2)))
  where
    less : {p y : ℕ} → suc p ≡ suc y → p ≡ y
    less e = omega (arith, e)

    never : (p : ℕ) → 0 ≡ suc p → ⊥
    never p e = omega (arith, e)

-- ---- marks

-- what is marked is a cell of the list
pub marked_below : (alpha : ℕ) (cells : List Cell) (i : ℕ) → IsMarkedAt (map (is_small_cell alpha) cells) i →
    i < length cells
marked_below alpha [] i e = cc
marked_below alpha (c ∷ cells) zero e = omega arith
marked_below alpha (c ∷ cells) (suc i) e = let l = marked_below alpha cells i e in omega (arith, l)

-- the mark of a cell is whether it is so
pub mark_is : (alpha : ℕ) (cells : List Cell) (i : ℕ) → i < length cells →
    get_or (map (is_small_cell alpha) cells) i false ≡ is_small_cell alpha (cell_at cells i)
mark_is alpha cells i l = get_or-map (is_small_cell alpha) cells i (Full []) false l

-- a marked cell is Full
pub small_full : (alpha : ℕ) (c : Cell) → is_small_cell alpha c ≡ true → (q : List ℕ) × (c ≡ Full q) ×
    (is_within alpha q ≡ true)
small_full alpha (Full q) e = (q, refl, e)
small_full alpha (Open t) e = cc

-- ---- cells of the complex

-- the points of a Full cell ascend
pub full_ascends : (s q : List ℕ) → IsAscending s → IsIn (Full q) (complex s) → IsAscending q
unfolding complex
full_ascends s q a i = elim (from_append (Full q) (map Full (filter (is_full s) (subsets 4 s))) _ i) [
  | inl j ↦ (
      let r = mapped_from Full (Full q) (filter (is_full s) (subsets 4 s)) j in
      subst IsAscending (same r.0 q r.2) (part_ascending 4 s r.0 a (filtered_from (is_full s) (subsets 4 s) r.0 r.1).0))
  | inr j ↦ let r = mapped_from Open (Full q) _ j in absurd (not_open r.0 r.2)
]
  where
    same : (q r : List ℕ) → Full q ≡ Full r → q ≡ r
    same q r e = cc

    not_open : (t : List ℕ) → Open t ≡ Full q → ⊥
    not_open t e = cc

-- What is given: the faces of the complex of a set, marks of its cells within alpha, and labels, which are the same for
-- marked cells around a triple.
pub record Given (s : List ℕ) (faces : FaceLists) (alpha : ℕ) (labels : List ℕ) : Type 0 where
  pub faces_of : AreFacesOf s faces
  pub joined : (t : ℕ) → t < length faces.triples
      → HaveOneLabel faces (map (is_small_cell alpha) faces.cells) labels (get_or faces.triples t ([], []))

module _ (s : List ℕ) (faces : FaceLists) (alpha : ℕ) (labels : List ℕ) (g : Given s faces alpha labels) where
  -- the marks of the cells
  abbrev pub marks : List Bool
  marks = map (is_small_cell alpha) faces.cells

  -- the Full cells within alpha
  abbrev pub admitted : List (List ℕ)
  admitted = filter (is_within alpha) (full_cells faces.cells)

  -- the cells are in order
  sorted : IsStrictlySortedBy cell_cmp faces.cells
  sorted = subst (IsStrictlySortedBy cell_cmp) (sym g.faces_of.cells) (complex_is_sorted s g.faces_of.ascending)

  -- a marked cell is admitted
  pub admitted_from : (q : List ℕ) (i : ℕ) → IsMarkedNumber faces.cells marks q i → IsIn q admitted
  admitted_from q i n =
      let l = marked_below alpha faces.cells i n.marked in
      filtered_true (is_within alpha) (full_cells faces.cells) q
      (full_cell_is_listed faces.cells q (subst (λ (c : Cell). IsIn c faces.cells) n.cell
      (at_in faces.cells i (Full []) l)))
      (ap (is_small_cell alpha) (sym n.cell) ∙ sym (mark_is alpha faces.cells i l) ∙ n.marked)

  -- and an admitted one has a number
  pub numbered_from : (q : List ℕ) → IsIn q admitted → (i : ℕ) × (i < length faces.cells) ×
      IsMarkedNumber faces.cells marks q i
  numbered_from q j =
      let f = filtered_from (is_within alpha) (full_cells faces.cells) q j in
      let p = place_of faces.cells (Full q) (Full []) (listed_is_full_cell faces.cells q f.0) in
      (p.0, p.1, record { marked = mark_is alpha faces.cells p.0 p.1 ∙ ap (is_small_cell alpha) p.2 ∙ f.1; cell = p.2 })

  -- the number of a cell is below their count
  number_below : (q : List ℕ) (i : ℕ) → IsMarkedNumber faces.cells marks q i → i < length faces.cells
  number_below q i n = marked_below alpha faces.cells i n.marked

  -- its points ascend
  ascends : (q : List ℕ) (i : ℕ) → IsMarkedNumber faces.cells marks q i → IsAscending q
  ascends q i n =
      full_ascends s q g.faces_of.ascending
      (subst (IsIn (Full q)) g.faces_of.cells (subst (λ (c : Cell). IsIn c faces.cells) n.cell
      (at_in faces.cells i (Full []) (number_below q i n))))

  -- ---- triples

  -- a listed triple is one of the complex, with the cells that have it
  triple_from : (f : List ℕ × List Cell) → IsIn f faces.triples → (t : List ℕ) × IsIn t (parts_in 3 (complex s)) ×
      ((t, cells_with t (complex s)) ≡ f)
  triple_from f i = mapped_from (λ t. (t, cells_with t (complex s))) f (parts_in 3 (complex s))
      (subst (λ (v : List (List ℕ × List Cell)). IsIn f v) g.faces_of.triples i)

  -- a cell around it has it
  around_has : (t q : List ℕ) → IsIn t (parts_in 3 (complex s)) → IsAscending q →
      IsIn (Full q) (cells_with t (complex s)) → IsIn t (subsets 3 q)
  around_has t q i a m =
      let h = listed_is_part 3 (complex s) t i in
      let three = part_length 3 h.q t h.part in
      let f = filtered_from (λ c. list_all (λ p. is_among p (points_of c)) t) (complex s) (Full q) m in
      subst (λ n. IsIn t (subsets n q)) three
      (part_true q t a (part_ascending 3 h.q t (full_ascends s h.q g.faces_of.ascending h.listed) h.part)
      (λ p k. among_from p q (all_from (λ p. is_among p q) t f.1 p k)))

  -- and a cell that has it is around it
  has_around : (t q : List ℕ) → IsIn (Full q) (complex s) → IsIn t (subsets 3 q) →
      IsIn (Full q) (cells_with t (complex s))
  has_around t q i m =
      filtered_true (λ c. list_all (λ p. is_among p (points_of c)) t) (complex s) (Full q) i
      (all_true (λ p. is_among p q) t (λ p k. among_true p q (part_inside 3 q t m p k)))

  -- ---- paths and chains

  -- a cell beside another, told by its number
  step_from : (q c : List ℕ) (i m : ℕ) → IsMarkedNumber faces.cells marks q i → IsMarkedNumber faces.cells marks c m →
      AreBeside faces marks i m → ShareTriple q c
  step_from q c i m n k b =
      let r = triple_from b.triple b.listed in
      let first = subst (λ (v : List ℕ × List Cell). IsIn (cell_at faces.cells i) v.1) (sym r.2) b.first in
      let second = subst (λ (v : List ℕ × List Cell). IsIn (cell_at faces.cells m) v.1) (sym r.2) b.second in (
        r.0,
        around_has r.0 q r.1 (ascends q i n) (subst (λ (v : Cell). IsIn v (cells_with r.0 (complex s))) n.cell first),
        around_has r.0 c r.1 (ascends c m k) (subst (λ (v : Cell). IsIn v (cells_with r.0 (complex s))) k.cell second),
      )

  -- the cell of a marked number
  pub marked_cell : (m : ℕ) → IsMarkedAt marks m → (c : List ℕ) × IsMarkedNumber faces.cells marks c m
  marked_cell m e =
      let l = marked_below alpha faces.cells m e in
      let f = small_full alpha (cell_at faces.cells m) (sym (mark_is alpha faces.cells m l) ∙ e) in
      (f.0, record { marked = e; cell = f.1 })

  -- cells with one number are one
  same_cell : (q r : List ℕ) (i j : ℕ) → IsMarkedNumber faces.cells marks q i → IsMarkedNumber faces.cells marks r j →
      i ≡ j →
      q ≡ r
  same_cell q r i j n k e = same (sym n.cell ∙ ap (cell_at faces.cells) e ∙ k.cell)
    where
      same : Full q ≡ Full r → q ≡ r
      same f = cc

  -- a path over numbers is a chain of cells
  chain_from : (q r : List ℕ) (i : ℕ) (path : List ℕ) (j : ℕ) → IsMarkedNumber faces.cells marks q i →
      IsPath faces marks i path j → IsMarkedNumber faces.cells marks r j → AreChained admitted q r
  chain_from q r i [] j n e k = record { chain = []; joins = same_cell q r i j n k e }
  chain_from q r i (m ∷ path) j n p k =
      let c = marked_cell m p.0.second_marked in
      let rest = chain_from c.0 r m path j c.1 p.1 k in
      record { chain = c.0 ∷ rest.chain; joins = (admitted_from c.0 m c.1, step_from q c.0 i m n c.1 p.0, rest.joins) }

  -- the number of a cell among some numbers
  number_in : (q : List ℕ) (numbers : List ℕ) → IsIn (Full q) (cells_numbered faces.cells numbers) → (u : ℕ) ×
      IsIn u numbers × (cell_at faces.cells u ≡ Full q)
  number_in q numbers i = mapped_from (cell_at faces.cells) (Full q) numbers i

  -- cells that share a triple have one label
  alike : (q c : List ℕ) (i m : ℕ) → IsMarkedNumber faces.cells marks q i → IsMarkedNumber faces.cells marks c m →
      ShareTriple q c → AreTogether labels i m
  alike q c i m n k t =
      let listed = λ (x : List ℕ) (y : ℕ) (z : IsMarkedNumber faces.cells marks x y). subst (IsIn (Full x))
      g.faces_of.cells
      (subst (λ (v : Cell). IsIn v faces.cells) z.cell (at_in faces.cells y (Full []) (number_below x y z))) in
      let part = part_is_listed 3 (complex s) t.0 (record { q = q; listed = listed q i n; part = t.1 }) in
      let face = mapped_true (λ x. (x, cells_with x (complex s))) t.0 (parts_in 3 (complex s)) part in
      let place = place_of faces.triples (t.0, cells_with t.0 (complex s)) ([], [])
      (subst (λ (v : List (List ℕ × List Cell)). IsIn (t.0, cells_with t.0 (complex s)) v) (sym g.faces_of.triples)
      face) in
      let a = g.joined place.0 place.1 in
      let around = a.around ∙ ap (λ (v : List ℕ × List Cell). v.1) place.2 in
      let u = number_in q a.numbers (subst (λ (v : List Cell). IsIn (Full q) v) (sym around)
      (has_around t.0 q (listed q i n) t.1)) in
      let v = number_in c a.numbers (subst (λ (v : List Cell). IsIn (Full c) v) (sym around)
      (has_around t.0 c (listed c m k) t.2)) in
      let first = same_number q i u.0 n u.2 (below a u.0 u.1) in
      let second = same_number c m v.0 k v.2 (below a v.0 v.1) in
      ap (label_at labels) first ∙ a.alike u.0 v.0 u.1 v.1 (subst (IsMarkedAt marks) first n.marked)
      (subst (IsMarkedAt marks) second k.marked) ∙ ap (label_at labels) (sym second)
    where
      below : {f : List ℕ × List Cell} → (a : HaveOneLabel faces marks labels f) → (u : ℕ) → IsIn u a.numbers →
          u < length faces.cells
      below a u i = each_of_all (λ n. n < length faces.cells) a.numbers a.below u i

      same_number : (x : List ℕ) (y z : ℕ) → IsMarkedNumber faces.cells marks x y → cell_at faces.cells z ≡ Full x →
          z < length faces.cells → y ≡ z
      same_number x y z n e l =
          let l2 = number_below x y n in
          one_number faces.cells marks x y z sorted n (record {
            marked = mark_is alpha faces.cells z l ∙ ap (is_small_cell alpha) (e ∙ sym n.cell) ∙ sym
                (mark_is alpha faces.cells y l2) ∙ n.marked;
            cell = e;
          }) l2 l

  -- so do those that a chain joins
  pub alike_along : (q r : List ℕ) (chain : List (List ℕ)) (i j : ℕ) → IsMarkedNumber faces.cells marks q i →
      IsMarkedNumber faces.cells marks r j → IsChain admitted q chain r → AreTogether labels i j
  alike_along q r [] i j n k e = ap (label_at labels) (one_number faces.cells marks r i j sorted
      (subst (λ (v : List ℕ). IsMarkedNumber faces.cells marks v i) e n) k (number_below q i n) (number_below r j k))
  alike_along q r (c ∷ chain) i j n k t =
      let m = numbered_from c t.0 in
      alike q c i m.0 n m.2 t.1 ∙ alike_along c r chain m.0 j m.2 k t.2

  -- ---- the parts

  -- so what is gathered by right labels is the parts of the admitted cells
  are_parts : (parts : List (List (List ℕ))) → AreLabels faces marks (length faces.triples) labels
      → IsGathered faces.cells marks labels (length faces.cells) parts → AreSolidParts admitted parts
  are_parts parts labelled d = record {
    once = distinct_flat parts (λ p l. distinct_in_order (cells_at_place parts p) (d.ordered p l)) d.once;
    all = λ q. (
      λ i.
          let f = flat_from (λ v. v) parts q i in
          let p = place_of parts f.0 [] f.1 in
          let o = d.only p.0 q p.1 (subst (λ (v : List (List ℕ)). IsIn q v) (sym p.2) f.2) in
          admitted_from q o.0 o.2,
      λ i.
          let n = numbered_from q i in
          let o = d.put n.0 q n.1 n.2 in
          in_flat (λ v. v) parts (cells_at_place parts o.0) q (at_in parts o.0 [] o.1) o.2,
    );
    joined = λ part q r m i j.
        let p = place_of parts part [] m in
        let here = subst (λ (v : List (List ℕ)). IsIn q v) (sym p.2) i in
        let o = d.only p.0 q p.1 here in
        let n = numbered_from r j in (
          λ k.
              let path = labelled.only o.0 n.0 o.1 n.1 (d.apart p.0 o.0 n.0 q r p.1 o.1 n.1 o.2 n.2 here
              (subst (λ (v : List (List ℕ)). IsIn r v) (sym p.2) k)) in
              chain_from q r o.0 path.0 n.0 o.2 path.1 n.2,
          λ k. subst (λ (v : List (List ℕ)). IsIn r v) p.2 (d.together p.0 o.0 n.0 q r p.1 o.1 n.1 o.2 n.2 here
              (alike_along q r k.chain o.0 n.0 o.2 n.2 k.joins)),
        );
    filled = λ part m. let p = place_of parts part [] m in subst (λ (v : List (List ℕ)). 0 < length v) p.2
        (d.filled p.0 p.1);
    ordered = λ part m. let p = place_of parts part [] m in subst InOrder p.2 (d.ordered p.0 p.1);
    order = d.order;
  }

-- the parts of the alpha complex of a set
pub parts_are : (s : List ℕ) (faces : FaceLists) (alpha : ℕ) (labels : List ℕ) (parts : List (List (List ℕ))) →
    AreFacesOf s faces → AreLabels faces (map (is_small_cell alpha) faces.cells) (length faces.triples) labels
    → IsGathered faces.cells (map (is_small_cell alpha) faces.cells) labels (length faces.cells) parts →
    AreSolidParts (shape_of s alpha).cells parts
parts_are s faces alpha labels parts h l d =
    subst (λ (v : List (List ℕ)). AreSolidParts v parts) (cells_are s faces alpha h)
    (are_parts s faces alpha labels (record { faces_of = h; joined = l.joined }) parts l d)

-- what holds of an answer where there is one
pub if_ok : {T E : Type 0} {P Q : T → Type 0} (r : Result T E) → ((x : T) → P x → Q x) → IfOk r P → IfOk r Q
if_ok (Ok x) f p = f x p
if_ok (Err e) f p = tt
