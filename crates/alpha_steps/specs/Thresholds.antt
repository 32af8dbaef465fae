-- The least alpha at which each face of the complex of a set is admitted. Every alpha is below 2^34.
use Rattle.std.specs.Prelude.{◌≡◌, ℕ, ◌<◌, ◌^◌, Bool, true, false, List, map, nat_le, Option}
use Rattle.point_order.specs.Complex.{complex}
use Rattle.point_order.specs.Sets.{IsIn}
use Rattle.face_list.specs.Faces.{full_cells, parts_in}
use Rattle.alpha_complex.specs.Admitted.{is_admitted}
use Rattle.list_laws.specs.Lists.{held}
use Rattle.alpha_steps.specs.declared.threshold.Threshold.{Threshold}
use Rattle.alpha_steps.specs.declared.threshold.Threshold.TheVariants.{At, Never}

-- The points, the pairs and triples, each with its threshold, and a slot for each cell, with its points and its
-- threshold where it is Full.
pub record StepSlots : Type 0 where
  pub points : List ℕ
  pub pairs : List (List ℕ × Threshold)
  pub triples : List (List ℕ × Threshold)
  pub cells : List (Option (List ℕ × Threshold))

-- The threshold of a face is the least alpha at which it is admitted, or none.
abbrev pub IsThreshold : List ℕ → List ℕ → Threshold → Type 0
IsThreshold s face (At t) =
    (t < 2 ^ 34) × (is_admitted s t face ≡ true) × ((alpha : ℕ) → alpha < t → is_admitted s alpha face ≡ false)
IsThreshold s face Never = (alpha : ℕ) → alpha < 2 ^ 34 → is_admitted s alpha face ≡ false

-- the threshold is at most alpha
abbrev pub is_from : Threshold → ℕ → Bool
is_from (At t) alpha = nat_le t alpha
is_from Never alpha = false

-- What is told of a face: its threshold, and so whether it is admitted at each alpha.
pub record IsStep (s : List ℕ) (face : List ℕ) (t : Threshold) : Type 0 where
  pub least : IsThreshold s face t
  pub admitted : (alpha : ℕ) → alpha < 2 ^ 34 → is_admitted s alpha face ≡ is_from t alpha

-- The points of a set, and the pairs, triples and Full cells of its complex, each of these with its threshold.
pub record AreThresholds (s : List ℕ) (list : StepSlots) : Type 0 where
  pub points : list.points ≡ s
  pub pairs : map (λ f. f.0) list.pairs ≡ parts_in 2 (complex s)
  pub triples : map (λ f. f.0) list.triples ≡ parts_in 3 (complex s)
  pub cells : map (λ f. f.0) (held list.cells) ≡ full_cells (complex s)
  pub of_pairs : (f : List ℕ × Threshold) → IsIn f list.pairs → IsStep s f.0 f.1
  pub of_triples : (f : List ℕ × Threshold) → IsIn f list.triples → IsStep s f.0 f.1
  pub of_cells : (f : List ℕ × Threshold) → IsIn f (held list.cells) → IsStep s f.0 f.1
