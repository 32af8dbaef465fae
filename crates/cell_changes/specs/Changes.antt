-- The cells that go and those that come, from one complex to another.
use Rattle.std.specs.Prelude.{◌≡◌, ℕ, ◌↔◌, true, List}
use Rattle.list_laws.specs.Lists.{AreDistinct}
use Rattle.point_order.specs.declared.cell.Cell.{Cell}
use Rattle.point_order.specs.Complex.{complex}
use Rattle.point_order.specs.Facets.{points_of}
use Rattle.point_order.specs.Sets.{IsIn, without_point}
use Rattle.point_order.specs.Solid.{is_solid}

-- gone are exactly the cells of s that are not in t, and fresh those of t that are not in s
pub record IsChange (s t gone fresh : List Cell) : Type 0 where
  pub went : (c : Cell) → IsIn c gone → IsIn c s × (IsIn c t → ⊥)
  pub all_gone : (c : Cell) → IsIn c s → (IsIn c t → ⊥) → IsIn c gone
  pub came : (c : Cell) → IsIn c fresh → IsIn c t × (IsIn c s → ⊥)
  pub all_fresh : (c : Cell) → IsIn c t → (IsIn c s → ⊥) → IsIn c fresh

-- The set without v is solid. Gone are exactly the cells of the complex of s that have v, and these are
-- those that are none of the complex of the set without v. Fresh are exactly the cells of the latter
-- that are none of the former. Each stands once.
pub record IsRefilled (s : List ℕ) (v : ℕ) (gone fresh : List Cell) : Type 0 where
  pub solid : is_solid (without_point v s) ≡ true
  pub star : (c : Cell) → IsIn c gone ↔ (IsIn c (complex s) × IsIn v (points_of c))
  pub change : IsChange (complex s) (complex (without_point v s)) gone fresh
  pub gone_once : AreDistinct gone
  pub fresh_once : AreDistinct fresh
