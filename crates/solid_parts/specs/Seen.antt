-- Parts as contracts see them.
use Rattle.std.specs.Prelude.{ℕ, List, map}
use Rattle.solid_parts.specs.declared.part.Part.{Part}

-- parts, each as the list of its cells
abbrev pub parts_seen : List Part → List (List (List ℕ))
parts_seen parts = map (λ p. p.cells.items) parts
