-- The cells at a point and around it, from which those are told that come where it is taken.
use Rattle.std.specs.Prelude.{ℕ, List}
use Rattle.point_order.specs.declared.cell.Cell.{Cell}
use Rattle.point_order.specs.Complex.{complex}
use Rattle.point_order.specs.Sets.{IsIn}
use Rattle.hole_laws.specs.Edits.{IsSet, IsPointAcross}
use Rattle.gift_wrap.specs.Near.{IsStar, SomeHasPoint}

-- the star is that of v in s, and the cells around are cells of s, with those of the star among them
pub record AreAround (s : List ℕ) (v : ℕ) (star around : List Cell) : Type 0 where
  pub is_set : IsSet s
  pub has_v : IsIn v s
  pub star_is : IsStar s v star
  pub listed : (c : Cell) → IsIn c around → IsIn c (complex s)
  pub among : (c : Cell) → IsIn c star → IsIn c around

-- they are those of some set
abbrev pub AreAroundInSome : ℕ → List Cell → List Cell → Type 0
AreAroundInSome v star around = (s : List ℕ) × AreAround s v star around

-- the cells around have all points across from v
abbrev pub HaveAllAcross : List ℕ → ℕ → List Cell → Type 0
HaveAllAcross s v around = (e : ℕ) → IsPointAcross s v e → SomeHasPoint around e
