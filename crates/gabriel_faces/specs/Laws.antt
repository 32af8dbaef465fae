-- The laws of faces and links.
use Rattle.std.specs.Prelude.{◌≡◌, ℕ, true, List, [], ◌∷◌, ◌↔◌}
use Rattle.list_laws.specs.Lists.{AreDistinct}
use Rattle.point_order.specs.Sets.{IsIn, IsAscending}
use Rattle.point_order.specs.Complex.{complex}
use Rattle.del_laws.specs.Keys.{AreKeys}
use Rattle.del_laws.specs.Vertices.{is_full_cell}
use Rattle.face_list.specs.Faces.{parts_in, cells_with}
use Rattle.gabriel_faces.specs.Gabriel.{is_gabriel}
use Rattle.gabriel_faces.specs.Links.{IsFace, IsLink, link_of}

-- A face is Gabriel in its link exactly where it is in the whole set.
abbrev pub JudgedByLink : Type 0
JudgedByLink =
    (s face link : List ℕ) → IsAscending s → AreKeys s → IsFace s face → IsLink s face link →
    is_gabriel link face ≡ is_gabriel s face

-- the listed pairs and triples of a complex are faces of it
abbrev pub ListedIsFace : Type 0
ListedIsFace = (s : List ℕ) (k : ℕ) (p : List ℕ) → IsAscending s → IsIn p (parts_in k (complex s)) → IsFace s p

-- the list that link_of gives of the cells that contain a face is its link
abbrev pub LinkIsLink : Type 0
LinkIsLink = (s face : List ℕ) → IsLink s face (link_of face (cells_with face (complex s)))

-- The link of a triangle is the opposite points of its Full cells: an Open cell on it has no other finite point.
abbrev pub OppositePoints : Type 0
OppositePoints =
    (s : List ℕ) (a b c p : ℕ) → IsAscending s → AreKeys s → AreDistinct (a ∷ b ∷ c ∷ []) →
    IsIn p (link_of (a ∷ b ∷ c ∷ []) (cells_with (a ∷ b ∷ c ∷ []) (complex s))) ↔ (is_full_cell s a b c p ≡ true)
