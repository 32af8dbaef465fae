-- A place outside among one or two.
use Rattle.std.proofs.Common.{◌⊎◌, inl, inr, sym, subst, [], ◌∷◌}
use Rattle.mesh_rows.specs.declared.rows.Place.{Place}
use Rattle.mesh_rows.specs.Meshes.{HasOutside}
use Rattle.mesh_rows.specs.Rows.{LiesOutside}

-- a place outside among one, or among two
pub outside_one : (place : Place) → HasOutside (place ∷ []) → LiesOutside place
outside_one place h = elim h.1 [ inl e ↦ subst LiesOutside (sym e) h.2 | inr none ↦ absurd none ]

pub outside_two : (a b : Place) → HasOutside (a ∷ b ∷ []) → LiesOutside a ⊎ LiesOutside b
outside_two a b h = elim h.1 [
  | inl e ↦ inl (subst LiesOutside (sym e) h.2)
  | inr i ↦ elim i [ inl e ↦ inr (subst LiesOutside (sym e) h.2) | inr none ↦ absurd none ]
]
