-- Faces of a complex, and their links: what is in a link.
use Rattle.std.specs.Prelude.{◌≡◌, refl, ℕ, true, not, List, [], ◌∷◌}
use Rattle.std.specs.List.{flat_map, list_all}
use Rattle.std.proofs.Common.{ap, inl, inr, sym, subst}
use Rattle.list_laws.proofs.Cited.{all_true, among_from, among_true, distinct_ascending, false_if, filtered_from}
use Rattle.list_laws.proofs.Cited.{filtered_true, flat_from, in_flat, not_true, of_three}
use Rattle.point_order.specs.declared.cell.Cell.TheVariants.{Full}
use Rattle.point_order.specs.Sets.{IsIn, IsAscending, is_among, ascending}
use Rattle.point_order.specs.Facets.{points_of}
use Rattle.point_order.specs.Complex.{complex}
use Rattle.point_order.proofs.Cited.{in_ascending_from}
use Rattle.del_laws.specs.Cells.{point, OneOf}
use Rattle.del_laws.specs.Keys.{AreKeys}
use Rattle.del_laws.specs.Vertices.{is_full_cell}
use Rattle.del_laws.proofs.Cited.{apart12, apart14, apart23, apart24, apart34, listed_inside, listed_is_cell}
use Rattle.del_laws.proofs.Cited.{part_ascending, part_inside, test_is_listed, turn23}
use Rattle.face_list.specs.Faces.{cells_with}
use Rattle.face_list.proofs.Cited.{listed_is_part}
use Rattle.gabriel_faces.specs.Links.{link_of}
use Rattle.gabriel_faces.specs.Laws.{ListedIsFace, LinkIsLink}

-- ---- faces

-- the law ListedIsFace
pub listed_is_face : ListedIsFace
listed_is_face s k p a m =
    let h = listed_is_part k (complex s) p m in
    record {
      cell = h.q;
      listed = h.listed;
      inside = part_inside k h.q p h.part;
      distinct = distinct_ascending p (part_ascending k h.q p (ascends h.q h.listed) h.part);
    }
  where
    -- the points of a listed cell ascend
    ascends : (q : List ℕ) → IsIn (Full q) (complex s) → IsAscending q
    ascends q i =
        let l = listed_is_cell s (Full q) a i in subst IsAscending (sym l.is) (l.first, (l.second, (l.third, (tt, tt))))

-- ---- links

-- the law LinkIsLink
pub link_is_link : LinkIsLink
link_is_link s face = record { all = λ p m. m; only = λ p m. m }

-- a point of a Full cell that has the face, and none of the face's, is in the link
in_link : (s face : List ℕ) (w x y z e : ℕ) → IsAscending s → AreKeys s → is_full_cell s w x y z ≡ true →
    ((p : ℕ) → IsIn p face → OneOf p w x y z) → OneOf e w x y z → ¬ (IsIn e face) →
    IsIn e (link_of face (cells_with face (complex s)))
in_link s face w x y z e a k t f m n =
    let q = ascending (w ∷ x ∷ y ∷ z ∷ []) in
    filtered_true (λ p. not (is_among p face)) (flat_map points_of (cells_with face (complex s))) e
    (in_flat points_of (cells_with face (complex s)) (Full q) e
    (filtered_true (λ c. list_all (λ p. is_among p (points_of c)) face) (complex s) (Full q)
    (test_is_listed s a k (point w) (point x) (point y) (point z) t)
    (all_true (λ p. is_among p q) face (λ p i. among_true p q (in_ascending_from (w ∷ x ∷ y ∷ z ∷ []) p (f p i)))))
    (in_ascending_from (w ∷ x ∷ y ∷ z ∷ []) e m))
    (not_true (is_among e face) (false_if (is_among e face) (λ i. n (among_from e face i))))

-- the third point of a Full cell that begins with an edge is in the link of the edge
pub edge_in_link : (s : List ℕ) (a b x y : ℕ) → IsAscending s → AreKeys s → is_full_cell s a b x y ≡ true →
    IsIn x (link_of (a ∷ b ∷ []) (cells_with (a ∷ b ∷ []) (complex s)))
edge_in_link s a b x y i k u =
    in_link s (a ∷ b ∷ []) a b x y x i k u
    (λ p m. elim m [ inl e ↦ inl e | inr r ↦ elim r [ inl e ↦ inr (inl e) | inr none ↦ absurd none ] ])
    (inr (inr (inl refl)))
    (λ m. elim m [
      | inl e ↦ apart12 s k (point a) (point x) (point b) (point y)
          (turn23 s k (point a) (point b) (point x) (point y) u) (ap point e)
      | inr r ↦ elim r [ inl e ↦ apart23 s k (point a) (point b) (point x) (point y) u (ap point e) | inr none ↦ none ]
    ])

-- the fourth point of one that begins with a triangle is in the link of the triangle
pub triangle_in_link : (s : List ℕ) (a b c x : ℕ) → IsAscending s → AreKeys s → is_full_cell s a b c x ≡ true →
    IsIn x (link_of (a ∷ b ∷ c ∷ []) (cells_with (a ∷ b ∷ c ∷ []) (complex s)))
triangle_in_link s a b c x i k u =
    in_link s (a ∷ b ∷ c ∷ []) a b c x x i k u
    (λ p m. of_three (λ v. IsIn v (a ∷ b ∷ c ∷ x ∷ [])) m (inl refl) (inr (inl refl)) (inr (inr (inl refl))))
    (inr (inr (inr (inl refl))))
    (λ m. elim m [
      | inl e ↦ apart14 s k (point a) (point b) (point c) (point x) u (ap point e)
      | inr r ↦ elim r [
        | inl e ↦ apart24 s k (point a) (point b) (point c) (point x) u (ap point e)
        | inr v ↦ elim v [ inl e ↦ apart34 s (point a) (point b) (point c) (point x) u (ap point e) | inr none ↦ none ]
      ]
    ])

-- a point of a link is one of the set
pub link_inside : (s face : List ℕ) (e : ℕ) → IsAscending s → IsIn e (link_of face (cells_with face (complex s))) →
    IsIn e s
link_inside s face e a m =
    let i = filtered_from (λ p. not (is_among p face)) (flat_map points_of (cells_with face (complex s))) e m in
    let t = flat_from points_of (cells_with face (complex s)) e i.0 in
    let j = filtered_from (λ c. list_all (λ p. is_among p (points_of c)) face) (complex s) t.0 t.1 in
    listed_inside s t.0 (listed_is_cell s t.0 a j.0) e t.2
