-- The least alpha at which the cells reach every point and are few parts. Every alpha is below 2^34.
use Rattle.std.specs.Prelude.{◌≤◌, ◌<◌, ◌^◌, ◌↔◌, ℕ, List, length, Option, None, Some}
use Rattle.point_order.specs.Sets.{IsIn}
use Rattle.alpha_complex.specs.Shapes.{shape_of}
use Rattle.solid_parts.specs.Parts.{AreSolidParts}

-- an admitted cell has the point
abbrev pub IsCovered : List ℕ → ℕ → ℕ → Type 0
IsCovered s alpha p = (q : List ℕ) × IsIn q (shape_of s alpha).cells × IsIn p q

-- every point of the set is in an admitted cell at an alpha just where that is a number or more
abbrev pub IsStart : List ℕ → ℕ → ℕ → Type 0
IsStart s alpha start = (start ≤ alpha) ↔ ((p : ℕ) → IsIn p s → IsCovered s alpha p)

-- Every point of the set is in an admitted cell, and there are at most k parts.
pub record IsCompact (s : List ℕ) (k alpha : ℕ) : Type 0 where
  pub covered : (p : ℕ) → IsIn p s → IsCovered s alpha p
  pub parts : List (List (List ℕ))
  pub are_parts : AreSolidParts (shape_of s alpha).cells parts
  pub few : length parts ≤ k

-- the least alpha at which that holds, or none
abbrev pub IsLeastAlpha : List ℕ → ℕ → Option ℕ → Type 0
IsLeastAlpha s k (Some a) = (a < 2 ^ 34) × IsCompact s k a × ((b : ℕ) → b < a → IsCompact s k b → ⊥)
IsLeastAlpha s k None = (b : ℕ) → b < 2 ^ 34 → IsCompact s k b → ⊥
