use Rattle.std.proofs.Common.{◌≡◌, ℕ, ◌<◌, length, get_or}
use Rattle.alpha_complex.specs.declared.numbers.FaceAlphas.{FaceAlphas}
use Rattle.mesh_rows.specs.Around.{IsAround, numbers_at}
use Rattle.mesh_rows.proofs.around.alphas_around.Given as goal

-- the numbers of each of the faces so far
abbrev pub invariant-loop-index : goal.invariant-loop-index
invariant-loop-index g l =
    (length l.alphas.items ≡ l.index)
    × ((i : ℕ) (d : FaceAlphas) → i < l.index →
    IsAround l.cells (numbers_at l.table i) (get_or l.admitted.items i 0) (get_or l.alphas.items i d))
