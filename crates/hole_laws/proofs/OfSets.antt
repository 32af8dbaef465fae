-- The complexes of sets, as tests of four vertices and as lists; an insertion into a solid set.
use Rattle.std.specs.Prelude.{◌≡◌, ◌≢◌, ℕ, true, List, [], ◌∷◌}
use Rattle.std.proofs.Common.{refl, sym, ap, ◌∙◌, subst, inl, inr}
use Rattle.list_laws.proofs.Cited.{among_from, among_true, false_if, four_true, same_test}
use Rattle.point_order.specs.Coordinates.{IsKey}
use Rattle.point_order.specs.Sets.{IsIn, with_point}
use Rattle.point_order.specs.Complex.{complex}
use Rattle.point_order.specs.declared.cell.Cell.{Cell}
use Rattle.point_order.specs.declared.cell.Cell.TheVariants.{Full, Open}
use Rattle.point_order.specs.Solid.{is_solid}
use Rattle.point_order.proofs.Cited.{ascending_with, in_with, in_with_new, in_with_old}
use Rattle.del_laws.specs.Cells.{Vertex, point, far}
use Rattle.del_laws.specs.PointSets.{PointSet, solid, cell, has_as_point}
use Rattle.del_laws.specs.Listed.{IsListed}
use Rattle.del_laws.specs.Vertices.{is_cell}
use Rattle.del_laws.proofs.Cited.{ascending_of, base, cell_is_listed, listed_is_cell, set_true}
use Rattle.hole_laws.proofs.Tests.{IsAdd, Insertion}
use Rattle.hole_laws.proofs.Vertex.{has_vertices, HasListed, ListsCells, IsOrdered, at_cell}
use Rattle.hole_laws.specs.Edits.{IsSet, IsSolidSet, IsNew}
use Rattle.hole_laws.proofs.Order.{IsBefore, in_any_order}
use Rattle.hole_laws.proofs.CellVertices.{vertices_symmetric}
use Rattle.hole_laws.proofs.Listed.{four_of}
use Rattle.hole_laws.proofs.FromBase.{complex_of, insertion}

-- ---- the list of a complex

-- four vertices in order that are a cell are listed
in_order : (s : PointSet) (w x y z : Vertex) → IsBefore w x → IsBefore x y → IsBefore y z → cell s w x y z ≡ true →
    HasListed (complex s.points) w x y z
unfolding cell
in_order s (point a) (point b) (point c) (point d) ab bc cd e = record {
  q = Full (a ∷ b ∷ c ∷ d ∷ []);
  listed = cell_is_listed s.points (Full (a ∷ b ∷ c ∷ d ∷ [])) (ascending_of s)
      (record { a = a; b = b; c = c; d = d; is = refl; first = ab; second = bc; third = cd; test = e });
  vertices = four_true _ _ _ _ (among_true a (a ∷ b ∷ c ∷ d ∷ []) (inl refl))
      (among_true b (a ∷ b ∷ c ∷ d ∷ []) (inr (inl refl))) (among_true c (a ∷ b ∷ c ∷ d ∷ []) (inr (inr (inl refl))))
      (among_true d (a ∷ b ∷ c ∷ d ∷ []) (inr (inr (inr (inl refl)))));
}
in_order s (point a) (point b) (point c) far ab bc cd e = record {
  q = Open (a ∷ b ∷ c ∷ []);
  listed = cell_is_listed s.points (Open (a ∷ b ∷ c ∷ [])) (ascending_of s)
      (record { a = a; b = b; c = c; is = refl; first = ab; second = bc; test = e });
  vertices = four_true _ _ _ _ (among_true a (a ∷ b ∷ c ∷ []) (inl refl))
      (among_true b (a ∷ b ∷ c ∷ []) (inr (inl refl))) (among_true c (a ∷ b ∷ c ∷ []) (inr (inr (inl refl)))) refl;
}
in_order s (point a) (point b) far z ab bc cd e = absurd cd
in_order s (point a) far y z ab bc cd e = absurd bc
in_order s far x y z ab bc cd e = absurd ab

-- listed under another order
turned : {l : List Cell} {w x y z w' x' y' z' : Vertex} → ((q : Cell) →
    has_vertices q w x y z ≡ has_vertices q w' x' y' z') → HasListed l w x y z → HasListed l w' x' y' z'
turned f r = record { q = r.q; listed = r.listed; vertices = sym (f r.q) ∙ r.vertices }

-- the list of a complex has its cells
pub lists_cells : (s : PointSet) → ListsCells (complex s.points) (cell s)
unfolding cell
lists_cells s = record {
  found = λ w x y z e. in_any_order (λ w x y z. cell s w x y z ≡ true → HasListed (complex s.points) w x y z) (record {
    swap12 = λ w x y z f m. turned (λ q. (vertices_symmetric q).first w x y z)
        (f ((base.complex s).symmetric.first w x y z ∙ m));
    swap23 = λ w x y z f m. turned (λ q. (vertices_symmetric q).middle w x y z)
        (f ((base.complex s).symmetric.middle w x y z ∙ m));
    swap34 = λ w x y z f m. turned (λ q. (vertices_symmetric q).last w x y z)
        (f ((base.complex s).symmetric.last w x y z ∙ m));
  }) (in_order s) w x y z (four_of (cell s) (complex_of s) w x y z e) e;
  ordered = λ q m. ordered q (listed_is_cell s.points q (ascending_of s) m);
  cell = λ q m. passes q (listed_is_cell s.points q (ascending_of s) m);
}
  where
    ordered : (q : Cell) → IsListed s.points q → IsOrdered q
    ordered (Full q) r = subst (λ (v : List ℕ). IsOrdered (Full v)) (sym r.is) (r.first, r.second, r.third)
    ordered (Open q) r = subst (λ (v : List ℕ). IsOrdered (Open v)) (sym r.is) (r.first, r.second)

    passes : (q : Cell) → IsListed s.points q → at_cell (λ w x y z. is_cell s.points w x y z) q ≡ true
    passes (Full q) r =
        subst (λ (v : List ℕ). at_cell (λ w x y z. is_cell s.points w x y z) (Full v) ≡ true) (sym r.is) r.test
    passes (Open q) r =
        subst (λ (v : List ℕ). at_cell (λ w x y z. is_cell s.points w x y z) (Open v) ≡ true) (sym r.is) r.test

-- ---- sets as lists

-- the set of a list
pub set_of : (s : List ℕ) → IsSet s → PointSet
set_of s i = record { points = s; valid = set_true s i.ascending i.keys.below }

-- its points are those of the list
pub set_of_points : (s : List ℕ) (i : IsSet s) → (set_of s i).points ≡ s
unfolding set_of
set_of_points s i = refl

-- what the list is asked for
pub has_of : (s : List ℕ) (i : IsSet s) (e : ℕ) → IsIn e s → has_as_point (set_of s i) (point e) ≡ true
unfolding set_of
has_of s i e m = among_true e s m

-- and back
pub of_has : (s : List ℕ) (i : IsSet s) (e : ℕ) → has_as_point (set_of s i) (point e) ≡ true → IsIn e s
unfolding set_of
of_has s i e h = among_from e s h

-- a solid list is a solid set
pub solid_of : (s : List ℕ) (i : IsSet s) → is_solid s ≡ true → solid (set_of s i) ≡ true
unfolding set_of
solid_of s i e = e

-- and back
pub of_solid : (s : List ℕ) (i : IsSet s) → solid (set_of s i) ≡ true → is_solid s ≡ true
unfolding set_of
of_solid s i e = e

-- the list of its complex has its cells
pub lists_of : (s : List ℕ) (i : IsSet s) → ListsCells (complex s) (cell (set_of s i))
lists_of s i =
    subst (λ (v : List ℕ). ListsCells (complex v) (cell (set_of s i))) (set_of_points s i) (lists_cells (set_of s i))

-- with a key a set is a set
pub more_set : (s : List ℕ) (p : ℕ) → IsSet s → IsKey p → IsSet (with_point p s)
more_set s p i k = record {
  ascending = ascending_with p s i.ascending;
  keys = record { below = λ e m. elim (in_with p e s m) [ inl q ↦ subst IsKey q k | inr r ↦ i.keys.below e r ] };
}

-- a set with a new point
pub adds : (s : List ℕ) (p : ℕ) (i : IsSet s) (n : IsNew s p) →
    IsAdd (set_of s i) (point p) (set_of (with_point p s) (more_set s p i n.key))
adds s p i n = record {
  finite = λ e. (cc);
  absent = false_if (has_as_point (set_of s i) (point p)) (λ h. n.absent (of_has s i p h));
  present = has_of (with_point p s) (more_set s p i n.key) p (in_with_new p s);
  same = same;
}
  where
    other : (e : ℕ) → point e ≢ point p → IsIn e (with_point p s) → IsIn e s
    other e d m = elim (in_with p e s m) [ inl q ↦ absurd (d (ap point (sym q))) | inr r ↦ r ]

    same : (q : Vertex) → q ≢ point p → has_as_point (set_of (with_point p s) (more_set s p i n.key)) q
        ≡ has_as_point (set_of s i) q
    same (point e) d =
        same_test (has_as_point (set_of (with_point p s) (more_set s p i n.key)) (point e))
        (has_as_point (set_of s i) (point e))
        (λ h. has_of s i e (other e d (of_has (with_point p s) (more_set s p i n.key) e h)))
        (λ h. has_of (with_point p s) (more_set s p i n.key) e (in_with_old p e s (of_has s i e h)))
    same far d = refl

-- an insertion into a solid set
pub inserts : (s : List ℕ) (p : ℕ) (i : IsSolidSet s) (n : IsNew s p) →
    Insertion (cell (set_of s i.set)) (cell (set_of (with_point p s) (more_set s p i.set n.key))) (point p)
inserts s p i n =
    insertion (set_of s i.set) (set_of (with_point p s) (more_set s p i.set n.key)) (point p) (solid_of s i.set i.solid)
    (adds s p i.set n)
