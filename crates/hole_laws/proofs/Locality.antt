-- Which cells an insertion changes: all their points are near the new one.
use Rattle.std.specs.Prelude.{◌≡◌, Bool, true, false, ◌≢◌, ◌⊎◌}
use Rattle.std.proofs.Common.{refl, sym, ap, ◌∙◌, inl, inr}
use Rattle.std.proofs.lemmas.Bool.{false≢true}
use Rattle.list_laws.proofs.Cited.{and_not}
use Rattle.del_laws.specs.Cells.{Vertex, far}
use Rattle.hole_laws.proofs.Tests.{AreLinked, IsAtGone}
use Rattle.del_laws.specs.PointSets.{PointSet, solid, cell}
use Rattle.del_laws.proofs.Cited.{test_symmetric}
use Rattle.hole_laws.proofs.Tests.{IsAdd}
use Rattle.hole_laws.proofs.Vertices.{cases_vertex, first_last, second_last}
use Rattle.hole_laws.proofs.Rims.{new_has_rim, without_symmetric}
use Rattle.hole_laws.proofs.FromBase as from

-- the points beside v are points of cells that v takes away
pub linked_at : (S T : PointSet) (v : Vertex) → solid S ≡ true → IsAdd S v T → (q : Vertex) → q ≢ far →
    AreLinked (cell T) v q → IsAtGone (cell S) (cell T) q
linked_at S T v s a q n l =
    let r = new_has_rim (cell S) (cell T) v (from.insertion S T v s a) l.t1 l.t2 q l.cell in
    record {
      t1 = l.t1;
      t2 = l.t2;
      t3 = r.lost;
      cell = sym ((without_symmetric (cell S) (cell T) (test_symmetric S) (test_symmetric T)).last l.t1 l.t2 q r.lost)
          ∙ and_not (cell S l.t1 l.t2 q r.lost) (cell T l.t1 l.t2 q r.lost) r.lost_before r.lost_after;
      finite = n;
    }

-- and back
pub at_linked : (S T : PointSet) (v : Vertex) → solid S ≡ true → IsAdd S v T → (q : Vertex) →
    IsAtGone (cell S) (cell T) q → AreLinked (cell T) v q
at_linked S T v s a q h = from.linked S T v s a h.t1 h.t2 h.t3 q h.cell h.finite

-- a point of a cell that is in one of the two complexes alone is the new one, or a point of a cell that goes
pub changed : (S T : PointSet) (p : Vertex) → solid S ≡ true → IsAdd S p T → (w x y z : Vertex) →
    cell S w x y z ≢ cell T w x y z → z ≢ far → (z ≡ p) ⊎ IsAtGone (cell S) (cell T) z
changed S T p s a w x y z n f = go (cell S w x y z) (cell T w x y z) refl refl
  where
    new : (t1 t2 : Vertex) → cell T t1 t2 z p ≡ true → IsAtGone (cell S) (cell T) z
    new t1 t2 h = linked_at S T p s a z f record { t1 = t1; t2 = t2; cell = h }

    made : cell S w x y z ≡ false → cell T w x y z ≡ true → (w ≡ p) ⊎ (w ≡ p → ⊥) → (x ≡ p) ⊎ (x ≡ p → ⊥) →
        (y ≡ p) ⊎ (y ≡ p → ⊥) → (z ≡ p) ⊎ (z ≡ p → ⊥) → (z ≡ p) ⊎ IsAtGone (cell S) (cell T) z
    made l r b c d (inl e) = inl e
    made l r (inl e) c d (inr m) =
        inr (new x y (ap (cell T x y z) (sym e) ∙ sym (first_last (cell T) (test_symmetric T) w x y z) ∙ r))
    made l r (inr i) (inl e) d (inr m) =
        inr (new w y (ap (cell T w y z) (sym e) ∙ sym (second_last (cell T) (test_symmetric T) w x y z) ∙ r))
    made l r (inr i) (inr j) (inl e) (inr m) =
        inr (new w x (ap (cell T w x z) (sym e) ∙ sym ((test_symmetric T).last w x y z) ∙ r))
    made l r (inr i) (inr j) (inr o) (inr m) = absurd (false≢true (sym l ∙ from.old S T p s a w x y z r i j o m))

    go : (b c : Bool) → cell S w x y z ≡ b → cell T w x y z ≡ c → (z ≡ p) ⊎ IsAtGone (cell S) (cell T) z
    go true true l r = absurd (n (l ∙ sym r))
    go false false l r = absurd (n (l ∙ sym r))
    go true false l r =
        inr record { t1 = w; t2 = x; t3 = y; cell = and_not (cell S w x y z) (cell T w x y z) l r; finite = f }
    go false true l r = made l r (cases_vertex w p) (cases_vertex x p) (cases_vertex y p) (cases_vertex z p)
