-- Slots in pages of one size.
use Rattle.std.specs.Prelude.{◌≡◌, List, [], ◌∷◌, Option, length}
use Rattle.std.specs.List.{flat_map}
use Rattle.point_order.specs.declared.cell.Cell.{Cell}

-- the slots of pages, one page after another
abbrev pub slots_of : List (List (Option Cell)) → List (Option Cell)
slots_of pages = flat_map (λ p. p) pages

-- each page has 128 slots
abbrev pub AreWhole : List (List (Option Cell)) → Type 0
AreWhole [] = Unit {0}
AreWhole (p ∷ pages) = (length p ≡ 128) × AreWhole pages
