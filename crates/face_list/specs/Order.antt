-- The order of parts by their first points.
use Rattle.std.specs.Prelude.{◌≡◌, ℕ, ◌<◌, List, [], ◌∷◌, slice_index_or}
use Rattle.std.specs.Ordering.{nat_cmp}
use Rattle.std.specs.Cmp.Lexicographic.{slice_cmp}
use Rattle.std.specs.declared.cmp.Ordering.TheVariants.{Less}
use Rattle.std.proofs.Common.{refl, arith}
use Rattle.list_laws.proofs.Cited.{less_first}

-- a part with a lesser first point comes before another
pub before_by_first : (a b : List ℕ) → slice_index_or a 0 0 < slice_index_or b 0 0 → slice_cmp nat_cmp a b ≡ Less
before_by_first [] [] h = absurd (omega (arith, h))
before_by_first [] (y ∷ b) h = refl
before_by_first (x ∷ a) [] h = absurd (omega (arith, h))
before_by_first (x ∷ a) (y ∷ b) h = less_first x y a b h
