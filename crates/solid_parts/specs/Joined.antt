-- Cells that are joined by chains. A cell is the ascending list of its four points.
use Rattle.std.specs.Prelude.{◌≡◌, ℕ, List, [], ◌∷◌}
use Rattle.point_order.specs.Sets.{IsIn}
use Rattle.point_order.specs.Subsets.{subsets}

-- two cells share a triple: three points are in both
abbrev pub ShareTriple : List ℕ → List ℕ → Type 0
ShareTriple q r = (t : List ℕ) × IsIn t (subsets 3 q) × IsIn t (subsets 3 r)

-- Some cells are a chain from q to r: each is one of the list, and shares a triple with the one before it, the first
-- with q; the last is r.
abbrev pub IsChain : List (List ℕ) → List ℕ → List (List ℕ) → List ℕ → Type 0
IsChain cells q [] r = q ≡ r
IsChain cells q (c ∷ chain) r = IsIn c cells × ShareTriple q c × IsChain cells c chain r

-- A chain of cells of the list joins two cells.
pub record AreChained (cells : List (List ℕ)) (q r : List ℕ) : Type 0 where
  pub chain : List (List ℕ)
  pub joins : IsChain cells q chain r
