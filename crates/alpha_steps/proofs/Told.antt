-- Faces with their thresholds, in the order of the faces.
use Rattle.std.proofs.Common.{◌≡◌, refl, sym, subst, ap, ap₂, ◌∙◌, ℕ, zero, suc, ◌<◌, ◌^◌, inl, inr, Bool, true, false}
use Rattle.std.proofs.Common.{List, [], ◌∷◌, map, length, get_or, arith, nat_le}
use Rattle.std.specs.Prelude.{None, zip, nat_lt, if◌then◌else◌}
use Rattle.std.specs.List.{AllZip}
use Rattle.std.proofs.lemmas.Bool.{cases_lt}
use Rattle.std.proofs.lemmas.Bool.Decides.{nat_tests}
use Rattle.std.proofs.lemmas.List.{length-map}
use Rattle.list_laws.proofs.Cited.{length_zip}
use Rattle.point_order.specs.declared.cell.Cell.{Cell}
use Rattle.point_order.specs.declared.cell.Cell.TheVariants.{Full, Open}
use Rattle.point_order.specs.Complex.{complex}
use Rattle.point_order.specs.Sets.{IsIn}
use Rattle.face_list.specs.Faces.{full_cells, parts_in, points_in, points_with_cells, with_cells_around}
use Rattle.face_list.specs.Seen.{FaceLists}
use Rattle.face_list.proofs.Cited.{points_of_complex}
use Rattle.alpha_complex.specs.declared.numbers.Alphas.{Alphas}
use Rattle.alpha_complex.specs.Admitted.{is_admitted, is_admitted_cell}
use Rattle.alpha_complex.specs.Condition.{AreFacesOf}
use Rattle.alpha_complex.specs.Leasts.{AreLeastOf, IsLeastOf}
use Rattle.alpha_complex.specs.Told.{TellsFaces}
use Rattle.list_laws.specs.Lists.{held}
use Rattle.alpha_steps.specs.declared.threshold.Threshold.{Threshold}
use Rattle.alpha_steps.specs.declared.threshold.Threshold.TheVariants.{At, Never}
use Rattle.alpha_steps.specs.declared.steps.Thresholds.TheInside.{Inside}
use Rattle.alpha_steps.specs.Seen.{AreAsMany, cell_steps_of, step_of_cell, steps_of, steps_seen, threshold_of}
use Rattle.alpha_steps.specs.Thresholds.{StepSlots, AreThresholds, IsStep}
use Rattle.alpha_complex.proofs.Cited.{firsts_are as faces_are, zip_count}

-- ---- lists of the same length

-- as many faces with thresholds as numbers
pub step_count : {X : Type 0} (xs : List X) (ns : List ℕ) → length ns ≡ length xs →
    length ns ≡ length (steps_of xs ns)
step_count xs ns e =
    let n = length-map ns threshold_of in
    sym n ∙ sym (zip_count xs (map threshold_of ns) (n ∙ e))

-- there are as many cells with thresholds as numbers
pub cell_step_count : (cells : List Cell) (ns : List ℕ) → length ns ≡ length cells →
    length ns ≡ length (cell_steps_of cells ns)
cell_step_count cells ns e = sym (length-map (zip cells ns) (λ (c : Cell × ℕ). step_of_cell c.0 c.1) ∙ zip_count cells
    ns e)

-- the face of an index with its threshold
pub step_is :
    {X : Type 0} (xs : List X) (ns : List ℕ) (i : ℕ) (x : X) (d : ℕ) (t : Threshold)
    (r : X × Threshold) → i < length xs → i < length ns →
    x ≡ get_or xs i x → t ≡ threshold_of (get_or ns i d) → (x, t) ≡ get_or (steps_of xs ns) i r
step_is [] ns i x d t r h k e f = absurd (omega (arith, h))
step_is (y ∷ xs) [] i x d t r h k e f = absurd (omega (arith, k))
step_is (y ∷ xs) (b ∷ ns) zero x d t r h k e f = ap₂ (λ v w. (v, w)) e f
step_is (y ∷ xs) (b ∷ ns) (suc i) x d t r h k e f = step_is xs ns i x d t r (omega (arith, h))
    (omega (arith, k)) e f

-- and the cell of an index
pub cell_step_is : (cells : List Cell) (ns : List ℕ) (i : ℕ) (c : Cell) (n : ℕ) → i < length cells → i < length ns →
    step_of_cell (get_or cells i c) (get_or ns i n) ≡ get_or (cell_steps_of cells ns) i None
cell_step_is [] ns i c n h k = absurd (omega (arith, h))
cell_step_is (x ∷ cells) [] i c n h k = absurd (omega (arith, k))
cell_step_is (x ∷ cells) (y ∷ ns) zero c n h k = refl
cell_step_is (x ∷ cells) (y ∷ ns) (suc i) c n h k = cell_step_is cells ns i c n (omega (arith, h)) (omega (arith, k))

-- ---- what is listed

-- the faces of faces with thresholds are these
zip_firsts : {X : Type 0} (xs : List X) (ns : List ℕ) → length ns ≡ length xs → map (λ f. f.0) (steps_of xs ns) ≡ xs
zip_firsts [] [] e = refl
zip_firsts [] (n ∷ ns) e = absurd (omega (arith, e))
zip_firsts (x ∷ xs) [] e = absurd (omega (arith, e))
zip_firsts {X} (x ∷ xs) (n ∷ ns) e = ap (λ (v : List X). x ∷ v) (zip_firsts xs ns (omega (arith, e)))

-- the cells are the Full ones
pub cell_firsts : (cells : List Cell) (ns : List ℕ) → length ns ≡ length cells →
    map (λ f. f.0) (held (cell_steps_of cells ns)) ≡ full_cells cells
cell_firsts [] [] e = refl
cell_firsts [] (n ∷ ns) e = absurd (omega (arith, e))
cell_firsts (c ∷ cells) [] e = absurd (omega (arith, e))
cell_firsts (Full q ∷ cells) (n ∷ ns) e = ap (λ (v : List (List ℕ)). q ∷ v) (cell_firsts cells ns (omega (arith, e)))
cell_firsts (Open t ∷ cells) (n ∷ ns) e = cell_firsts cells ns (omega (arith, e))

-- and so they are counted
pub cell_held : (cells : List Cell) (ns : List ℕ) → length ns ≡ length cells →
    length (full_cells cells) ≡ length (held (cell_steps_of cells ns))
cell_held cells ns e =
    sym (ap length (cell_firsts cells ns e)) ∙ length-map (held (cell_steps_of cells ns))
    (λ (f : List ℕ × Threshold). f.0)

-- ---- thresholds

-- what a least alpha tells
pub step_from : (s face : List ℕ) (n : ℕ) → IsLeastOf (λ alpha. is_admitted s alpha face) n →
    IsStep s face (threshold_of n)
step_from s face n h = elim (cases_lt n (2 ^ 34)) [
  | inl l ↦
      let e : nat_lt n (2 ^ 34) ≡ true = grind (arith, nat_tests) in
      subst (λ (b : Bool). IsStep s face (if b then At n else Never)) (sym e) (record {
        least = (l, h n l ∙ itself n, λ alpha k. h alpha (omega (arith, k, l)) ∙ above alpha k);
        admitted = h;
      })
  | inr l ↦
      let e : nat_lt n (2 ^ 34) ≡ false = grind (arith, nat_tests) in
      subst (λ (b : Bool). IsStep s face (if b then At n else Never)) (sym e) (record {
        least = λ alpha k. h alpha k ∙ above alpha (omega (arith, k, l));
        admitted = λ alpha k. h alpha k ∙ above alpha (omega (arith, k, l));
      })
]
  where
    itself : (m : ℕ) → nat_le m m ≡ true
    itself m = grind (arith, nat_tests)

    above : (alpha : ℕ) → alpha < n → nat_le n alpha ≡ false
    above alpha k = grind (arith, nat_tests)

-- of faces
steps_told : (s : List ℕ) (faces : List (List ℕ)) (ns : List ℕ) → AreLeastOf (is_admitted s) faces ns →
    (f : List ℕ × Threshold) → IsIn f (steps_of faces ns) → IsStep s f.0 f.1
steps_told s [] ns z f i = absurd i
steps_told s (p ∷ faces) [] z f i = absurd i
steps_told s (p ∷ faces) (n ∷ ns) z f (inl e) = subst (λ (v : List ℕ × Threshold). IsStep s v.0 v.1) e
    (step_from s p n z.0)
steps_told s (p ∷ faces) (n ∷ ns) z f (inr i) = steps_told s faces ns z.1 f i

-- of cells
cell_steps_told :
    (s : List ℕ) (cells : List Cell) (ns : List ℕ) → AllZip (λ c n. IsLeastOf (λ alpha. is_admitted_cell s alpha c) n)
    cells ns → (f : List ℕ × Threshold) → IsIn f (held (cell_steps_of cells ns)) →
    IsStep s f.0 f.1
cell_steps_told s [] ns z f i = absurd i
cell_steps_told s (c ∷ cells) [] z f i = absurd i
cell_steps_told s (Full q ∷ cells) (n ∷ ns) z f (inl e) = subst (λ (v : List ℕ × Threshold). IsStep s v.0 v.1) e
    (step_from s q n z.0)
cell_steps_told s (Full q ∷ cells) (n ∷ ns) z f (inr i) = cell_steps_told s cells ns z.1 f i
cell_steps_told s (Open t ∷ cells) (n ∷ ns) z f i = cell_steps_told s cells ns z.1 f i

-- and so with points
points_are : (points : List ℕ) (cells : List Cell) → map (λ f. f.0) (points_with_cells points cells) ≡ points
points_are [] cells = refl
points_are (p ∷ points) cells = ap (λ l. p ∷ l) (points_are points cells)

-- the thresholds of the complex of a set
pub thresholds_are :
    (s : List ℕ) (faces : FaceLists) (known : Alphas) (t : Inside) → AreFacesOf s faces → t.faces.now ≡ faces →
    TellsFaces s known → t.pairs.items ≡ known.pairs.items → t.triples.items ≡ known.triples.items →
    t.cells.items ≡ known.cells.items → AreThresholds s (steps_seen t)
thresholds_are s faces known t h e told pe te ce =
    let pairs : map (λ f. f.0) t.faces.now.pairs ≡ parts 2 = ap (λ (v : FaceLists). map (λ f. f.0) v.pairs) e ∙ ap
    (λ (v : List (List ℕ × List Cell)). map (λ f. f.0) v) h.pairs ∙ faces_are (parts 2) (complex s) in
    let triples : map (λ f. f.0) t.faces.now.triples ≡ parts 3 =
    ap (λ (v : FaceLists). map (λ f. f.0) v.triples) e ∙ ap (λ (v : List (List ℕ × List Cell)). map (λ f. f.0) v)
    h.triples ∙ faces_are (parts 3) (complex s) in
    let cells : t.faces.now.cells ≡ complex s = ap (λ (v : FaceLists). v.cells) e ∙ h.cells in
    let pair_count = ap length pe ∙ sym
    (length_zip (λ p n. IsLeastOf (λ alpha. is_admitted s alpha p) n) (parts 2) known.pairs.items told.pairs) in
    let triple_count = ap length te ∙ sym
    (length_zip (λ p n. IsLeastOf (λ alpha. is_admitted s alpha p) n) (parts 3) known.triples.items told.triples) in
    let cell_count = ap length ce ∙ sym
    (length_zip (λ c n. IsLeastOf (λ alpha. is_admitted_cell s alpha c) n) (complex s) known.cells.items told.cells) in
    record {
      points = ap (λ (v : FaceLists). map (λ f. f.0) v.points) e ∙ ap (λ (v : List (ℕ × List Cell)). map (λ f. f.0) v)
          h.points ∙ points_are (points_in (complex s)) (complex s)
          ∙ points_of_complex s h.ascending h.keys h.solid;
      pairs = ap (λ (v : List (List ℕ)). map (λ f. f.0) (steps_of v t.pairs.items)) pairs ∙ zip_firsts (parts 2)
          t.pairs.items pair_count;
      triples = ap (λ (v : List (List ℕ)). map (λ f. f.0) (steps_of v t.triples.items)) triples ∙ zip_firsts
          (parts 3) t.triples.items triple_count;
      cells = ap (λ (v : List Cell). map (λ f. f.0) (held (cell_steps_of v t.cells.items))) cells ∙ cell_firsts
          (complex s) t.cells.items cell_count;
      of_pairs = λ f i. steps_told s (parts 2) known.pairs.items told.pairs f
          (subst (λ (v : List ℕ). IsIn f (steps_of (parts 2) v)) pe
          (subst (λ (v : List (List ℕ)). IsIn f (steps_of v t.pairs.items)) pairs i));
      of_triples = λ f i. steps_told s (parts 3) known.triples.items told.triples f
          (subst (λ (v : List ℕ). IsIn f (steps_of (parts 3) v)) te
          (subst (λ (v : List (List ℕ)). IsIn f (steps_of v t.triples.items)) triples i));
      of_cells = λ f i. cell_steps_told s (complex s) known.cells.items told.cells f
          (subst (λ (v : List ℕ). IsIn f (held (cell_steps_of (complex s) v))) ce
          (subst (λ (v : List Cell). IsIn f (held (cell_steps_of v t.cells.items))) cells i));
    }
  where
    parts : ℕ → List (List ℕ)
    parts k = parts_in k (complex s)

-- ---- as they are seen

-- there are as many numbers as pairs that are seen
pub pairs_as_seen : (t : Inside) (v : StepSlots) → AreAsMany t → steps_seen t ≡ v →
    length t.pairs.items ≡ length v.pairs
pairs_as_seen t v h e =
    step_count (map (λ f. f.0) t.faces.now.pairs) t.pairs.items
    (h.pairs ∙ sym (length-map t.faces.now.pairs (λ (f : List ℕ × List Cell). f.0)))
    ∙ ap (λ (w : StepSlots). length w.pairs) e

-- as many as triples
pub triples_as_seen : (t : Inside) (v : StepSlots) → AreAsMany t → steps_seen t ≡ v →
    length t.triples.items ≡ length v.triples
triples_as_seen t v h e =
    step_count (map (λ f. f.0) t.faces.now.triples) t.triples.items
    (h.triples ∙ sym (length-map t.faces.now.triples (λ (f : List ℕ × List Cell). f.0)))
    ∙ ap (λ (w : StepSlots). length w.triples) e

-- as many as slots of cells
pub cells_as_seen : (t : Inside) (v : StepSlots) → AreAsMany t → steps_seen t ≡ v →
    length t.cells.items ≡ length v.cells
cells_as_seen t v h e = cell_step_count t.faces.now.cells t.cells.items h.cells ∙ ap
    (λ (w : StepSlots). length w.cells) e

-- and as many Full cells as slots that hold one
pub cells_held : (t : Inside) (v : StepSlots) → AreAsMany t → steps_seen t ≡ v →
    length (full_cells t.faces.now.cells) ≡ length (held v.cells)
cells_held t v h e = cell_held t.faces.now.cells t.cells.items h.cells ∙ ap
    (λ (w : StepSlots). length (held w.cells)) e
