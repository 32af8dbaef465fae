-- The lists of a shape, by the lists of faces of a complex.
use Rattle.std.proofs.Common.{◌≡◌, ap, ◌∙◌, ℕ, List}
use Rattle.std.specs.List.{filter}
use Rattle.list_laws.proofs.Cited.{same_filter}
use Rattle.point_order.specs.declared.cell.Cell.{Cell}
use Rattle.point_order.specs.Complex.{complex}
use Rattle.point_order.specs.Sets.{IsAscending}
use Rattle.del_laws.specs.Keys.{AreKeys}
use Rattle.face_list.specs.Faces.{full_cells, parts_in}
use Rattle.face_list.specs.Seen.{FaceLists}
use Rattle.face_list.proofs.Cited.{listed_is_full_cell, parts_in_order, points_of_complex}
use Rattle.alpha_complex.specs.Admitted.{is_within, is_admitted}
use Rattle.alpha_complex.specs.Condition.{AreFaces, AreFacesOf}
use Rattle.alpha_complex.specs.Judged.{is_admitted_triple, is_admitted_pair, kinds_by}
use Rattle.alpha_complex.specs.Leasts.{AreOrdered}
use Rattle.alpha_complex.specs.Shapes.{shape_of}
use Rattle.alpha_complex.proofs.SmallFaces.{firsts_are, small_by_link}
use Rattle.alpha_complex.proofs.Admission.{Linked, triples_of, admitted_cell_is, admitted_pair_is, admitted_triple_is}
use Rattle.alpha_complex.proofs.Admission.{kinds_are, point_kinds_are}

-- ---- conditions

-- the triples are in order
pub triples_ordered : (faces : FaceLists) → AreFaces faces → AreOrdered faces.triples
triples_ordered faces h = rw (h.1.triples, firsts_are (parts_in 3 (complex h.0)) (complex h.0))
    (parts_in_order 3 (complex h.0))

-- ---- the lists

-- links tell which faces are small
pub linked : (s : List ℕ) (alpha : ℕ) → IsAscending s → AreKeys s → Linked s alpha
linked s alpha a keys = record { ascending = a; small = λ k p i. small_by_link s alpha k p a keys i }

-- the cells
pub cells_are : (s : List ℕ) (faces : FaceLists) (alpha : ℕ) → AreFacesOf s faces →
    filter (is_within alpha) (full_cells faces.cells) ≡ (shape_of s alpha).cells
cells_are s faces alpha h =
    ap (λ (c : List Cell). filter (is_within alpha) (full_cells c)) h.cells
    ∙ same_filter (is_within alpha) (is_admitted s alpha) (full_cells (complex s))
    (λ q i. admitted_cell_is s alpha q h.ascending (listed_is_full_cell (complex s) q i))

-- the points
pub points_are : (s : List ℕ) (faces : FaceLists) (alpha : ℕ) → AreFacesOf s faces →
    kinds_by alpha faces.points ≡ (shape_of s alpha).points
points_are s faces alpha h = rw (h.points, points_of_complex s h.ascending h.keys h.solid)
    (point_kinds_are s alpha s h.ascending)

-- the pairs
pub pair_kinds_are :
    (s : List ℕ) (faces : FaceLists) (alpha : ℕ) → AreFacesOf s faces →
    kinds_by alpha (filter (is_admitted_pair faces.triples alpha) faces.pairs) ≡ (shape_of s alpha).pairs
pair_kinds_are s faces alpha h =
    rw (h.triples, h.pairs) (kinds_are s alpha (is_admitted_pair (triples_of s) alpha) (parts_in 2 (complex s))
    h.ascending (λ p i. admitted_pair_is s alpha p (linked s alpha h.ascending h.keys) i))

-- the triples
pub triple_kinds_are :
    (s : List ℕ) (faces : FaceLists) (alpha : ℕ) → AreFacesOf s faces →
    kinds_by alpha (filter (is_admitted_triple alpha) faces.triples) ≡ (shape_of s alpha).triples
triple_kinds_are s faces alpha h =
    rw h.triples (kinds_are s alpha (is_admitted_triple alpha) (parts_in 3 (complex s)) h.ascending
    (λ p i. admitted_triple_is s alpha p (linked s alpha h.ascending h.keys) i))
