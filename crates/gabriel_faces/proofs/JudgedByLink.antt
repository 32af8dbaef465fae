-- A face is Gabriel in its link exactly where it is in the whole set.
use Rattle.std.specs.Prelude.{◌≡◌, refl, ℕ, true, not, List, [], ◌∷◌}
use Rattle.std.proofs.Common.{inl, inr, sym, subst}
use Rattle.list_laws.proofs.Cited.{all_from, all_true, same_test}
use Rattle.point_order.specs.declared.cell.Cell.TheVariants.{Full}
use Rattle.point_order.specs.Sets.{IsIn, IsAscending}
use Rattle.small_spheres.specs.Inside.{is_inside_edge, is_inside_triangle}
use Rattle.del_laws.specs.Keys.{AreKeys}
use Rattle.del_laws.specs.Vertices.{is_full_cell}
use Rattle.del_laws.specs.EmptySpheres.{IsOffEdge, IsOffTriangle}
use Rattle.del_laws.proofs.Cited.{edge_by_cells, listed_is_cell, triangle_by_cells}
use Rattle.gabriel_faces.specs.Gabriel.{is_empty_edge, is_empty_triangle}
use Rattle.gabriel_faces.specs.Links.{IsFace, IsLink}
use Rattle.gabriel_faces.specs.Laws.{JudgedByLink}
use Rattle.gabriel_faces.proofs.Corners.{Begins, with_one, with_two, with_three}
use Rattle.gabriel_faces.proofs.Links.{edge_in_link, triangle_in_link, link_inside}
use Rattle.gabriel_faces.proofs.Powers.{edge_passes, edge_off, triangle_passes, triangle_off}

-- the cell of a face, with a point of the face in front
begins : (s face : List ℕ) (a : ℕ) → IsAscending s → AreKeys s → (F : IsFace s face) → IsIn a face → Begins s F.cell a
begins s face a i k F m =
    let l = listed_is_cell s (Full F.cell) i F.listed in
    subst (λ (q : List ℕ). Begins s q a) (sym l.is) (with_one s l.a l.b l.c l.d a k l.test
    (subst (λ (q : List ℕ). IsIn a q) l.is (F.inside a m)))

module _ (s link : List ℕ) (i : IsAscending s) (k : AreKeys s) where
  -- ---- edges

  -- an edge that is empty over its link is empty over the set
  edge_from : (a b : ℕ) → (F : IsFace s (a ∷ b ∷ [])) → IsLink s (a ∷ b ∷ []) link → is_empty_edge link a b ≡ true →
      is_empty_edge s a b ≡ true
  edge_from a b F L t =
      let B = with_two s F.cell a b k (begins s (a ∷ b ∷ []) a i k F (inl refl)) (F.inside b (inr (inl refl)))
      (λ e. F.distinct.0 (inl (sym e))) in
      all_true (λ e. not (is_inside_edge a b e)) s (λ e m. edge_passes a b e
      ((edge_by_cells s a b B.x B.y k B.test).0 off e m))
    where
      -- the points of the Full cells with the edge are off the sphere
      off : (x y : ℕ) → is_full_cell s a b x y ≡ true → IsOffEdge a b x
      off x y u =
          edge_off a b x (all_from (λ e. not (is_inside_edge a b e)) link t x (L.all x (edge_in_link s a b x y i k u)))

  -- and an edge that is empty over the set is empty over its link
  edge_to : (a b : ℕ) → IsLink s (a ∷ b ∷ []) link → is_empty_edge s a b ≡ true → is_empty_edge link a b ≡ true
  edge_to a b L t =
      all_true (λ e. not (is_inside_edge a b e)) link (λ e m. all_from (λ e. not (is_inside_edge a b e)) s t e
      (link_inside s (a ∷ b ∷ []) e i (L.only e m)))

  -- ---- triangles

  -- the same of a triangle
  triangle_from : (a b c : ℕ) → (F : IsFace s (a ∷ b ∷ c ∷ [])) → IsLink s (a ∷ b ∷ c ∷ []) link →
      is_empty_triangle link a b c ≡ true → is_empty_triangle s a b c ≡ true
  triangle_from a b c F L t =
      let B = with_two s F.cell a b k (begins s (a ∷ b ∷ c ∷ []) a i k F (inl refl)) (F.inside b (inr (inl refl)))
      (λ e. F.distinct.0 (inl (sym e))) in
      let C = with_three s F.cell a b c k B (F.inside c (inr (inr (inl refl)))) (λ e. F.distinct.0 (inr (inl (sym e))))
      (λ e. F.distinct.1.0 (inl (sym e))) in
      all_true (λ e. not (is_inside_triangle a b c e)) s (λ e m. triangle_passes a b c e
      ((triangle_by_cells s a b c C.x k C.test).0 off e m))
    where
      -- the opposite points are off the sphere
      off : (x : ℕ) → is_full_cell s a b c x ≡ true → IsOffTriangle a b c x
      off x u =
          triangle_off a b c x (all_from (λ e. not (is_inside_triangle a b c e)) link t x
          (L.all x (triangle_in_link s a b c x i k u)))

  -- and back
  triangle_to : (a b c : ℕ) → IsLink s (a ∷ b ∷ c ∷ []) link → is_empty_triangle s a b c ≡ true →
      is_empty_triangle link a b c ≡ true
  triangle_to a b c L t =
      all_true (λ e. not (is_inside_triangle a b c e)) link (λ e m. all_from (λ e. not (is_inside_triangle a b c e)) s t
      e (link_inside s (a ∷ b ∷ c ∷ []) e i (L.only e m)))

-- the law JudgedByLink
pub judged_by_link : JudgedByLink
judged_by_link s [] link i k F L = refl
judged_by_link s (p ∷ []) link i k F L = refl
judged_by_link s (a ∷ b ∷ []) link i k F L =
    same_test (is_empty_edge link a b) (is_empty_edge s a b) (edge_from s link i k a b F L) (edge_to s link i k a b L)
judged_by_link s (a ∷ b ∷ c ∷ []) link i k F L =
    same_test (is_empty_triangle link a b c) (is_empty_triangle s a b c) (triangle_from s link i k a b c F L)
    (triangle_to s link i k a b c L)
judged_by_link s (a ∷ b ∷ c ∷ d ∷ q) link i k F L = refl
