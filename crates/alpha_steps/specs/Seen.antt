-- Thresholds as contracts see them.
use Rattle.std.specs.Prelude.{◌≡◌, ℕ, ◌^◌, List, map, length, zip, nat_lt, Option, None, Some, if◌then◌else◌}
use Rattle.point_order.specs.declared.cell.Cell.{Cell}
use Rattle.point_order.specs.declared.cell.Cell.TheVariants.{Full, Open}
use Rattle.alpha_steps.specs.declared.threshold.Threshold.{Threshold}
use Rattle.alpha_steps.specs.declared.threshold.Threshold.TheVariants.{At, Never}
use Rattle.alpha_steps.specs.declared.steps.Thresholds.TheInside.{Inside}
use Rattle.alpha_steps.specs.Thresholds.{StepSlots}

-- the threshold that a least alpha tells: none where it is no alpha
abbrev pub threshold_of : ℕ → Threshold
threshold_of n = if nat_lt n (2 ^ 34) then At n else Never

-- faces, each with the threshold that its number tells
abbrev pub steps_of : {X : Type 0} → List X → List ℕ → List (X × Threshold)
steps_of faces numbers = zip faces (map threshold_of numbers)

-- a cell with that of its number, where it is Full
abbrev pub step_of_cell : Cell → ℕ → Option (List ℕ × Threshold)
step_of_cell (Full q) n = Some (q, threshold_of n)
step_of_cell (Open t) n = None

-- a slot for each cell
abbrev pub cell_steps_of : List Cell → List ℕ → List (Option (List ℕ × Threshold))
cell_steps_of cells numbers = map (λ c. step_of_cell c.0 c.1) (zip cells numbers)

abbrev pub steps_seen : Inside → StepSlots
steps_seen t =
    record {
      points = map (λ f. f.0) t.faces.now.points;
      pairs = steps_of (map (λ f. f.0) t.faces.now.pairs) t.pairs.items;
      triples = steps_of (map (λ f. f.0) t.faces.now.triples) t.triples.items;
      cells = cell_steps_of t.faces.now.cells t.cells.items;
    }

-- As many numbers as faces.
pub record AreAsMany (t : Inside) : Type 0 where
  pub pairs : length t.pairs.items ≡ length t.faces.now.pairs
  pub triples : length t.triples.items ≡ length t.faces.now.triples
  pub cells : length t.cells.items ≡ length t.faces.now.cells
