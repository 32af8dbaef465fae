-- Digs: what is found of the cells that a new point takes away, and what fills the hole.
use Rattle.std.specs.Prelude.{ℕ, ◌↔◌, List}
use Rattle.list_laws.specs.Lists.{AreDistinct}
use Rattle.point_order.specs.declared.cell.Cell.{Cell}
use Rattle.point_order.specs.declared.cell.Facet.{Facet}
use Rattle.point_order.specs.Complex.{complex}
use Rattle.point_order.specs.Facets.{facets_of}
use Rattle.point_order.specs.Sets.{IsIn, with_point}
use Rattle.hole_laws.specs.Digs.{AreUncrossed, IsCrossedAt}
use Rattle.hole_laws.specs.Edits.{GoesFrom, IsRimOf}
use Rattle.cell_slots.specs.Parts.{AreWithin}
use Rattle.cell_slots.specs.declared.reach.Reach.{Reach}

-- the cells are within a complex in which some facets of found cells were crossed, and the cell is one of those found
abbrev pub StandsAt : Reach → List Cell → ℕ → Cell → List Cell → List Facet → Type 0
StandsAt reach cells p cell found rim =
    (within : AreWithin reach cells) × (crossed : List Facet) × IsCrossedAt within.set p crossed cell found rim

-- and no rim facet of the cell was crossed
abbrev pub StandsNewAt : Reach → List Cell → ℕ → Cell → List Cell → List Facet → Type 0
StandsNewAt reach cells p cell found rim =
    (within : AreWithin reach cells) × (crossed : List Facet) × IsCrossedAt within.set p crossed cell found rim
    × AreUncrossed within.set p crossed (facets_of cell)

-- the hole of p: exactly the cells that go and the facets around them, each once
pub record IsHoleOf (s : List ℕ) (p : ℕ) (gone : List Cell) (rim : List Facet) : Type 0 where
  pub gone_is : (q : Cell) → IsIn q gone ↔ GoesFrom s p q
  pub rim_is : (f : Facet) → IsIn f rim ↔ IsRimOf s p f
  pub gone_once : AreDistinct gone
  pub rim_once : AreDistinct rim

-- gone are exactly the cells of the complex of s that are none of that of s with p
pub record IsHoleFilled (s : List ℕ) (p : ℕ) (gone fresh : List Cell) : Type 0 where
  pub gone_is : (q : Cell) → IsIn q gone ↔ GoesFrom s p q
  pub came : (q : Cell) → IsIn q fresh → IsIn q (complex (with_point p s)) × ¬ (IsIn q (complex s))
  pub all_fresh : (q : Cell) → IsIn q (complex (with_point p s)) → ¬ (IsIn q (complex s)) → IsIn q fresh
  pub fresh_once : AreDistinct fresh
