-- How faces are judged by lists, as private functions promise it.
use Rattle.std.specs.Prelude.{ℕ, Bool, false, ◌||◌, ◌&&◌, List, map}
use Rattle.std.specs.List.{filter, list_any}
use Rattle.std.specs.Ordering.{nat_cmp, is_eq}
use Rattle.std.specs.Cmp.Lexicographic.{slice_cmp}
use Rattle.point_order.specs.declared.cell.Cell.{Cell}
use Rattle.point_order.specs.declared.cell.Cell.TheVariants.{Full, Open}
use Rattle.point_order.specs.declared.cell.Facet.{Facet}
use Rattle.point_order.specs.declared.cell.Facet.TheVariants.{Three, Two}
use Rattle.point_order.specs.Facets.{facets_of}
use Rattle.alpha_complex.specs.declared.shape.Kind.{Kind}
use Rattle.gabriel_faces.specs.Gabriel.{is_gabriel}
use Rattle.gabriel_faces.specs.Links.{link_of}
use Rattle.alpha_complex.specs.Admitted.{contains, is_within, kind_by}

-- the face, beside the cells that contain it, is Gabriel in its link, and within alpha
abbrev pub is_small_by : ℕ → List ℕ × List Cell → Bool
is_small_by alpha f = is_gabriel (link_of f.0 f.1) f.0 && is_within alpha f.0

-- the cell is Full and within alpha
abbrev pub is_small_cell : ℕ → Cell → Bool
is_small_cell alpha (Full q) = is_within alpha q
is_small_cell alpha (Open t) = false

-- some cell within alpha contains the triple, or it is itself Gabriel and within alpha
abbrev pub is_admitted_triple : ℕ → List ℕ × List Cell → Bool
is_admitted_triple alpha face = list_any (is_small_cell alpha) face.1 || is_small_by alpha face

-- those of the triples that are admitted so
abbrev pub admitted_triples : ℕ → List (List ℕ × List Cell) → List (List ℕ)
admitted_triples alpha triples = map (λ f. f.0) (filter (is_admitted_triple alpha) triples)

-- the points are one of the list
abbrev pub is_listed : List (List ℕ) → List ℕ → Bool
is_listed list p = list_any (λ q. is_eq (slice_cmp nat_cmp q p)) list

-- the facet is one of the triples and contains the pair
abbrev pub is_listed_around : List (List ℕ) → List ℕ → Facet → Bool
is_listed_around triples pair (Three t) = contains t pair && is_listed triples t
is_listed_around triples pair (Two p) = false

-- one of the triples is among the facets of the cell and contains the pair
abbrev pub covers : List (List ℕ) → List ℕ → Cell → Bool
covers triples pair cell = list_any (is_listed_around triples pair) (facets_of cell)

-- faces, each with its kind by the cells within alpha
abbrev pub kinds_by : {X : Type 0} → ℕ → List (X × List Cell) → List (X × Kind)
kinds_by alpha faces = map (λ f. (f.0, kind_by (is_small_cell alpha) f.1)) faces

-- some cell within alpha contains the pair, or it is itself Gabriel and within alpha, or an admitted triple contains it
abbrev pub is_admitted_pair : List (List ℕ × List Cell) → ℕ → List ℕ × List Cell → Bool
is_admitted_pair triples alpha face =
    list_any (is_small_cell alpha) face.1 || (is_small_by alpha face
    || list_any (covers (admitted_triples alpha triples) face.0) face.1)
