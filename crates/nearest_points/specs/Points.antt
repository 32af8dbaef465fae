-- The nearest point of a set, and the answers to queries.
use Rattle.std.specs.Prelude.{◌≡◌, ℕ, false, List, pos}
use Rattle.std.specs.List.{AllZip}
use Rattle.point_order.specs.Orientation.{distance}
use Rattle.point_order.specs.Sets.{IsIn}
use Rattle.del_laws.specs.Nearest.{comes_before}
use Rattle.nearest_points.specs.declared.answers.Near.{Near}

-- x is one of the list, and as seen from q none of it comes before x
pub record IsFirstOf (q : ℕ) (l : List ℕ) (x : ℕ) : Type 0 where
  pub among : IsIn x l
  pub first : (y : ℕ) → IsIn y l → comes_before q y x ≡ false

-- the nearest point of s to q, among those as near the one with the least key
abbrev pub IsNearest : List ℕ → ℕ → ℕ → Type 0
IsNearest s q p = IsFirstOf q s p

-- the nearest point of s to q, and the square of its distance
abbrev pub IsNear : List ℕ → ℕ → Near → Type 0
IsNear s q near = IsNearest s q near.point × (pos near.square ≡ distance q near.point)

-- the answer to each query, in their order
abbrev pub AreNear : List ℕ → List ℕ → List Near → Type 0
AreNear s queries nears = AllZip (IsNear s) queries nears
