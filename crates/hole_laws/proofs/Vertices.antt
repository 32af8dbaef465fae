-- Whether two vertices are one, and cells with their vertices in another order.
use Rattle.std.specs.Prelude.{◌≡◌, Bool, ◌⊎◌}
use Rattle.std.proofs.Common.{◌∙◌, inl, inr}
use Rattle.del_laws.specs.Cells.{Vertex}
use Rattle.del_laws.proofs.Cited.{vertex_discrete}
use Rattle.del_laws.specs.Base.{Symmetric}

-- two vertices are one or not
pub cases_vertex : (a b : Vertex) → (a ≡ b) ⊎ (a ≡ b → ⊥)
cases_vertex a b = elim (vertex_discrete a b) [ yes e ↦ inl e | no n ↦ inr n ]

-- the first vertex comes last
pub first_last : (c : Vertex → Vertex → Vertex → Vertex → Bool) → Symmetric c → (w x y z : Vertex) →
    c w x y z ≡ c x y z w
first_last c s w x y z = s.first w x y z ∙ s.middle x w y z ∙ s.last x y w z

-- the second vertex comes last
pub second_last : (c : Vertex → Vertex → Vertex → Vertex → Bool) → Symmetric c → (w x y z : Vertex) →
    c w x y z ≡ c w y z x
second_last c s w x y z = s.middle w x y z ∙ s.last w y x z
