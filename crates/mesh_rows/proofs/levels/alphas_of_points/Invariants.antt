use Rattle.std.proofs.Common.{◌≡◌, ℕ, ◌<◌, length, get_or}
use Rattle.alpha_complex.specs.declared.numbers.FaceAlphas.{FaceAlphas}
use Rattle.mesh_rows.proofs.Alphas.{TellsPoint}
use Rattle.mesh_rows.proofs.levels.alphas_of_points.Given as goal

-- the numbers of each of the points so far
abbrev pub invariant-loop-index : goal.invariant-loop-index
invariant-loop-index l =
    (length l.alphas.items ≡ l.index)
    × ((i : ℕ) (d : FaceAlphas) → i < l.index → TellsPoint l.known.faces.now i (get_or l.alphas.items i d))
