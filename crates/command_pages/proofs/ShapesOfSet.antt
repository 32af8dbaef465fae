-- The shapes of a set, as the report tells them.
use Rattle.std.proofs.Common.{◌≡◌, refl, sym, subst, ap, ◌∙◌, ℕ, ◌<◌, ◌+◌, List, [], ◌∷◌, ◌++◌, map, drop, length}
use Rattle.std.proofs.Common.{get_or}
use Rattle.std.proofs.lemmas.List.{map-append, drop_more}
use Rattle.list_laws.proofs.Cited.{mapped_from}
use Rattle.point_order.specs.Sets.{IsIn, IsAscending}
use Rattle.alpha_complex.specs.declared.shape.Kind.{Kind}
use Rattle.alpha_complex.specs.Admitted.{kind}
use Rattle.alpha_complex.specs.Shapes.{ShapeParts, shape_of}
use Rattle.alpha_complex.specs.Slots.{shape_seen, ShapeSlots}
use Rattle.mesh_files.specs.Report.{AreCountedInOrder, shapes_seen}
use Rattle.mesh_files.specs.Text.{counted_points}
use Rattle.edit_files.specs.Content.{alpha_of}
use Rattle.edit_files.specs.declared.version.Version.{Version}

-- a shape is told by its four lists
pub seen_is : (shape : ShapeSlots) (parts : ShapeParts) → (shape_seen shape).points ≡ parts.points →
    (shape_seen shape).pairs ≡ parts.pairs → (shape_seen shape).triples ≡ parts.triples →
    (shape_seen shape).cells ≡ parts.cells → shape_seen shape ≡ parts
seen_is shape parts a b c d = rw (a, b, c, d) refl

-- the loop's step: the shape of the next radius
pub shapes_next :
    (v : Version) (s radii : List ℕ) (i d : ℕ) (old new : List (ℕ × ShapeSlots)) (shape : ShapeSlots) →
    i < length radii → new ≡ old ++ (get_or radii i d, shape) ∷ [] →
    shape_seen shape ≡ shape_of s (alpha_of v (get_or radii i d)) →
    shapes_seen old ++ map (λ radius. (radius, shape_of s (alpha_of v radius))) (drop i radii) ≡ map
    (λ radius. (radius, shape_of s (alpha_of v radius))) radii →
    shapes_seen new ++ map (λ radius. (radius, shape_of s (alpha_of v radius))) (drop (i + 1) radii) ≡ map
    (λ radius. (radius, shape_of s (alpha_of v radius))) radii
shapes_next v s radii i d old new shape h e f g =
    let radius = get_or radii i d in
    let rest : List (ℕ × ShapeParts) = map (λ radius. (radius, shape_of s (alpha_of v radius))) (drop (i + 1) radii) in
    ap (λ (l : List (ℕ × ShapeSlots)). shapes_seen l ++ rest) e
    ∙ ap (λ (l : List (ℕ × ShapeParts)). l ++ rest) (map-append (λ (v : ℕ × ShapeSlots). (v.0, shape_seen v.1)) old
    ((radius, shape) ∷ []))
    ∙ joined (shapes_seen old) (radius, shape_seen shape) rest
    ∙ ap (λ (x : ShapeParts). shapes_seen old ++ (radius, x) ∷ rest) f
    ∙ ap (λ (l : List ℕ). shapes_seen old ++ map (λ radius. (radius, shape_of s (alpha_of v radius))) l)
    (sym (drop_more radii i d h))
    ∙ g
  where
    joined : (l : List (ℕ × ShapeParts)) (x : ℕ × ShapeParts) (m : List (ℕ × ShapeParts)) →
        (l ++ x ∷ []) ++ m ≡ l ++ x ∷ m
    joined [] x m = refl
    joined (y ∷ l) x m = ap (λ (v : List (ℕ × ShapeParts)). y ∷ v) (joined l x m)

-- the shapes of radii and points that are lent
pub shapes_lent : (v : Version) (seen : List (ℕ × ShapeParts)) (s lent_points radii lent_radii : List ℕ) →
    seen ≡ map (λ radius. (radius, shape_of lent_points (alpha_of v radius))) lent_radii → lent_points ≡ s →
    lent_radii ≡ radii → seen ≡ map (λ radius. (radius, shape_of s (alpha_of v radius))) radii
shapes_lent v seen s lent_points radii lent_radii e p r =
    e ∙ ap (λ (l : List ℕ). map (λ radius. (radius, shape_of l (alpha_of v radius))) lent_radii) p
    ∙ ap (λ (l : List ℕ). map (λ radius. (radius, shape_of s (alpha_of v radius))) l) r

-- the points of a shape, without their kinds, are those of the set
points_are : (s : List ℕ) (alpha : ℕ) → counted_points (shape_of s alpha) ≡ s
points_are s alpha = firsts s
  where
    -- each point by itself
    firsts : (ps : List ℕ) → map (λ (f : ℕ × Kind). f.0) (map (λ (p : ℕ). (p, kind s alpha (p ∷ []))) ps) ≡ ps
    firsts [] = refl
    firsts (p ∷ ps) = ap (λ l. p ∷ l) (firsts ps)

-- so each shape counts by them, and they ascend
pub shapes_counted : (v : Version) (radii s : List ℕ) → IsAscending s →
    AreCountedInOrder (map (λ radius. (radius, shape_of s (alpha_of v radius))) radii)
shapes_counted v radii s a = record {
  ascending =
      λ p i. by p (mapped_from (λ (radius : ℕ). (radius, shape_of s (alpha_of v radius))) p radii i);
}
  where
    -- the shape of a radius
    by : (p : ℕ × ShapeParts) → ((r : ℕ) × IsIn r radii × ((r, shape_of s (alpha_of v r)) ≡ p)) →
        IsAscending (counted_points p.1)
    by p k = subst (λ (x : ℕ × ShapeParts). IsAscending (counted_points x.1)) k.2 (subst IsAscending
        (sym (points_are s (alpha_of v k.0))) a)
