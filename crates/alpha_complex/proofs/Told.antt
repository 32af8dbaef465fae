-- The numbers of the faces of a complex tell which are admitted, and of which kind.
use Rattle.std.proofs.Common.{◌≡◌, refl, sym, subst, ap, ◌∙◌, ℕ, ◌<◌, inl, inr, Bool, List, [], ◌∷◌, length, get_or}
use Rattle.std.specs.List.{AllZip}
use Rattle.std.proofs.lemmas.List.{get_or-map, length-map}
use Rattle.list_laws.proofs.Cited.{at_in}
use Rattle.point_order.specs.declared.cell.Cell.{Cell}
use Rattle.point_order.specs.Complex.{complex}
use Rattle.point_order.specs.Sets.{IsIn, IsAscending}
use Rattle.face_list.specs.Faces.{cells_with, parts_in, points_with_cells, with_cells_around}
use Rattle.face_list.specs.Seen.{FaceLists}
use Rattle.face_list.proofs.Cited.{points_of_complex}
use Rattle.alpha_complex.specs.declared.numbers.FaceAlphas.{FaceAlphas}
use Rattle.alpha_complex.specs.declared.numbers.Alphas.{Alphas}
use Rattle.alpha_complex.specs.Admitted.{is_admitted, is_admitted_cell}
use Rattle.alpha_complex.specs.Condition.{AreFacesOf}
use Rattle.alpha_complex.specs.Judged.{is_admitted_pair, is_admitted_triple, is_small_cell}
use Rattle.alpha_complex.specs.Leasts.{AreAlphasOf, AreKnown, AreLeastOf, IsLeastOf, face_at, is_admitted_point}
use Rattle.alpha_complex.specs.Leasts.{point_face_at}
use Rattle.alpha_complex.specs.Told.{TellsFace, TellsFaces}
use Rattle.alpha_complex.proofs.Admission.{admitted_pair_is, admitted_triple_is, all_cells_are, kind_is}
use Rattle.alpha_complex.proofs.Admission.{point_is_admitted, small_cell_is, some_cell_is, triples_of}
use Rattle.alpha_complex.proofs.KindSteps.{kind_told}
use Rattle.alpha_complex.proofs.Shaped.{linked}

-- faces beside their cells, where the test is that of admission
tells_zip :
    (s : List ℕ) (t : ℕ → List ℕ × List Cell → Bool) (faces : List (List ℕ)) (ns : List ℕ) →
    ((alpha : ℕ) (p : List ℕ) → IsIn p faces → t alpha (p, cells_with p (complex s)) ≡ is_admitted s alpha p) →
    AreLeastOf t (with_cells_around faces (complex s)) ns → AreLeastOf (is_admitted s) faces ns
tells_zip s t [] [] f z = tt
tells_zip s t [] (n ∷ ns) f z = absurd z
tells_zip s t (p ∷ faces) [] f z = absurd z
tells_zip s t (p ∷ faces) (n ∷ ns) f z = (
  λ alpha l. sym (f alpha p (inl refl)) ∙ z.0 alpha l,
  tells_zip s t faces ns (λ alpha q i. f alpha q (inr i)) z.1,
)

-- cells
tells_cells : (s : List ℕ) (cells : List Cell) (ns : List ℕ) → IsAscending s →
    ((c : Cell) → IsIn c cells → IsIn c (complex s)) → AreLeastOf is_small_cell cells ns →
    AllZip (λ c n. IsLeastOf (λ alpha. is_admitted_cell s alpha c) n) cells ns
tells_cells s [] [] a f z = tt
tells_cells s [] (n ∷ ns) a f z = absurd z
tells_cells s (c ∷ cells) [] a f z = absurd z
tells_cells s (c ∷ cells) (n ∷ ns) a f z = (
  λ alpha l. sym (small_cell_is s alpha c a (f c (inl refl))) ∙ z.0 alpha l,
  tells_cells s cells ns a (λ d i. f d (inr i)) z.1,
)

-- all of them
pub tells_faces : (s : List ℕ) (faces : FaceLists) (known : Alphas) → AreFacesOf s faces → known.faces.now ≡ faces →
    AreKnown known → TellsFaces s known
tells_faces s faces known h e k =
    let f : AreFacesOf s known.faces.now = subst (λ (v : FaceLists). AreFacesOf s v) (sym e) h in
    let a = f.ascending in
    let pair_test : AreLeastOf (is_admitted_pair (triples_of s))
    (with_cells_around (parts_in 2 (complex s)) (complex s))
    known.pairs.items = rw (f.triples, f.pairs) at k.pairs in
    let triple_test : AreLeastOf is_admitted_triple (with_cells_around (parts_in 3 (complex s)) (complex s))
    known.triples.items = rw f.triples at k.triples in
    let cell_test : AreLeastOf is_small_cell (complex s) known.cells.items = rw f.cells at k.cells in
    record {
      pairs = tells_zip s (is_admitted_pair (triples_of s)) (parts_in 2 (complex s)) known.pairs.items
          (λ alpha p i. admitted_pair_is s alpha p (linked s alpha a f.keys) i) pair_test;
      triples = tells_zip s is_admitted_triple (parts_in 3 (complex s)) known.triples.items
          (λ alpha p i. admitted_triple_is s alpha p (linked s alpha a f.keys) i) triple_test;
      cells = tells_cells s (complex s) known.cells.items a (λ c i. i) cell_test;
    }

-- ---- one face

-- its numbers tell of it, where the test is that of admission
tells_at :
    (s : List ℕ) (t : ℕ → List ℕ × List Cell → Bool) (faces : List (List ℕ)) (i : ℕ) (x : FaceAlphas) →
    IsAscending s → i < length (with_cells_around faces (complex s)) →
    ((alpha : ℕ) (p : List ℕ) → IsIn p faces → t alpha (p, cells_with p (complex s)) ≡ is_admitted s alpha p) →
    AreAlphasOf t (face_at (with_cells_around faces (complex s)) i) x → TellsFace s (get_or faces i []) x
tells_at s t faces i x a h f z =
    let p = get_or faces i [] in
    let n : i < length faces = subst (λ (k : ℕ). i < k) (length-map faces (λ p. (p, cells_with p (complex s)))) h in
    let w = subst (λ (v : List ℕ × List Cell). AreAlphasOf t v x)
    (get_or-map (λ p. (p, cells_with p (complex s))) faces i [] ([], []) n) z in
    record {
      admitted = λ alpha l. sym (f alpha p (at_in faces i [] n)) ∙ w.admitted alpha l;
      regular = λ alpha l. sym (some_cell_is s alpha p a) ∙ w.regular alpha l;
      interior = λ alpha l. sym (all_cells_are s alpha p a) ∙ w.interior alpha l;
      kind = λ alpha l. kind_told t (p, cells_with p (complex s)) x alpha l w ∙ kind_is s alpha p a;
    }

-- a pair
pub tells_pair : (s : List ℕ) (faces : FaceLists) (i : ℕ) (x : FaceAlphas) → AreFacesOf s faces →
    i < length faces.pairs → AreAlphasOf (is_admitted_pair faces.triples) (face_at faces.pairs i) x →
    TellsFace s (get_or (parts_in 2 (complex s)) i []) x
tells_pair s faces i x h l z =
    tells_at s (is_admitted_pair (triples_of s)) (parts_in 2 (complex s)) i x h.ascending (rw h.pairs at l)
    (λ alpha p m. admitted_pair_is s alpha p (linked s alpha h.ascending h.keys) m) (rw (h.triples, h.pairs) at z)

-- a triple
pub tells_triple : (s : List ℕ) (faces : FaceLists) (i : ℕ) (x : FaceAlphas) → AreFacesOf s faces →
    i < length faces.triples → AreAlphasOf is_admitted_triple (face_at faces.triples i) x →
    TellsFace s (get_or (parts_in 3 (complex s)) i []) x
tells_triple s faces i x h l z =
    tells_at s is_admitted_triple (parts_in 3 (complex s)) i x h.ascending (rw h.triples at l)
    (λ alpha p m. admitted_triple_is s alpha p (linked s alpha h.ascending h.keys) m) (rw h.triples at z)

-- a point
pub tells_point : (s : List ℕ) (faces : FaceLists) (i : ℕ) (x : FaceAlphas) → AreFacesOf s faces →
    i < length faces.points → AreAlphasOf is_admitted_point (point_face_at faces.points i) x →
    TellsFace s (get_or s i 0 ∷ []) x
tells_point s faces i x h l z =
    let p = get_or s i 0 in
    let e : faces.points ≡ points_with_cells s (complex s) =
    h.points ∙ ap (λ (v : List ℕ). points_with_cells v (complex s))
    (points_of_complex s h.ascending h.keys h.solid) in
    let m = subst (λ (v : List (ℕ × List Cell)). i < length v) e l in
    let n : i < length s = subst (λ (k : ℕ). i < k) (length-map s (λ p. (p, cells_with (p ∷ []) (complex s)))) m in
    let w = subst (λ (v : ℕ × List Cell). AreAlphasOf is_admitted_point v x)
    (get_or-map (λ p. (p, cells_with (p ∷ []) (complex s))) s i 0 (0, []) n)
    (subst (λ (v : List (ℕ × List Cell)). AreAlphasOf is_admitted_point (point_face_at v i) x) e z) in
    record {
      admitted = λ alpha k. point_is_admitted s alpha p h.ascending h.keys h.solid (at_in s i 0 n) ∙ w.admitted alpha k;
      regular = λ alpha k. sym (some_cell_is s alpha (p ∷ []) h.ascending) ∙ w.regular alpha k;
      interior = λ alpha k. sym (all_cells_are s alpha (p ∷ []) h.ascending) ∙ w.interior alpha k;
      kind = λ alpha k. kind_told is_admitted_point (p, cells_with (p ∷ []) (complex s)) x alpha k w
          ∙ kind_is s alpha (p ∷ []) h.ascending;
    }
