-- The alpha complex of a set.
use Rattle.std.specs.Prelude.{ℕ, List, [], ◌∷◌, map}
use Rattle.std.specs.List.{filter}
use Rattle.point_order.specs.Complex.{complex}
use Rattle.face_list.specs.Faces.{full_cells, parts_in}
use Rattle.alpha_complex.specs.declared.shape.Kind.{Kind}
use Rattle.alpha_complex.specs.Admitted.{is_admitted, kind}

-- admitted faces with their kinds, and the admitted cells
pub record ShapeParts : Type 0 where
  pub points : List (ℕ × Kind)
  pub pairs : List (List ℕ × Kind)
  pub triples : List (List ℕ × Kind)
  pub cells : List (List ℕ)

-- the admitted faces among some, with their kinds
abbrev pub admitted_among : List ℕ → ℕ → List (List ℕ) → List (List ℕ × Kind)
admitted_among s alpha faces = map (λ p. (p, kind s alpha p)) (filter (is_admitted s alpha) faces)

-- the alpha complex of a set: all its points, and the admitted pairs, triples and Full cells of its complex
abbrev pub shape_of : List ℕ → ℕ → ShapeParts
shape_of s alpha =
    record {
      points = map (λ p. (p, kind s alpha (p ∷ []))) s;
      pairs = admitted_among s alpha (parts_in 2 (complex s));
      triples = admitted_among s alpha (parts_in 3 (complex s));
      cells = filter (is_admitted s alpha) (full_cells (complex s));
    }
