-- The perturbed Delaunay complex of a set of points, which is an ascending list of keys.
use Rattle.std.specs.Prelude.{ℕ, Bool, false, not, ◌&&◌, ◌||◌, List, [], ◌∷◌, ◌++◌, map, pos, Option, None, Some}
use Rattle.std.specs.List.{filter, list_all, find}
use Rattle.std.specs.Int.Signed.{lt_z, le_z}
use Rattle.point_order.specs.Orientation.{orientation, is_flat, is_collinear}
use Rattle.point_order.specs.Heights.{out}
use Rattle.point_order.specs.Spheres.{is_outside}
use Rattle.point_order.specs.Sets.{is_among}
use Rattle.point_order.specs.Subsets.{subsets}
use Rattle.point_order.specs.declared.cell.Cell.{Cell}
use Rattle.point_order.specs.declared.cell.Cell.TheVariants.{Full, Open}

-- Full cells: four independent points of s with every other point of s outside their perturbed sphere.
abbrev pub is_full : List ℕ → List ℕ → Bool
is_full s (a ∷ b ∷ c ∷ d ∷ []) =
    not (is_flat a b c d) && list_all (λ e. is_among e (a ∷ b ∷ c ∷ d ∷ []) || is_outside a b c d e) s
is_full s _ = false

-- every other point of s in the plane of a, b, c is outside the perturbed
-- sphere of these and f, a point above the plane
abbrev pub is_empty_in_plane : List ℕ → ℕ → ℕ → ℕ → Option ℕ → Bool
is_empty_in_plane s a b c None = false
is_empty_in_plane s a b c (Some f) =
    list_all (λ e. is_among e (a ∷ b ∷ c ∷ []) || not (is_flat a b c e) || lt_z (pos 0) (out a b c f e)) s

-- seen in this order, no point of s lies below the plane of a, b, c,
-- and its points in the plane keep out of the sphere through the least point of s above it
abbrev pub is_open_from : List ℕ → ℕ → ℕ → ℕ → Bool
is_open_from s a b c =
    list_all (λ e. le_z (pos 0) (orientation a b c e)) s
    && is_empty_in_plane s a b c (find (λ f. lt_z (pos 0) (orientation a b c f)) s)

-- Open cells, those at the infinite vertex: three points of s, not on one line, that are so in one order.
abbrev pub is_open : List ℕ → List ℕ → Bool
is_open s (a ∷ b ∷ c ∷ []) = not (is_collinear a b c) && (is_open_from s a b c || is_open_from s a c b)
is_open s _ = false

-- the complex of a solid set: its Full cells ascending, then its Open cells ascending
unfoldable pub complex : List ℕ → List Cell
complex s = map Full (filter (is_full s) (subsets 4 s)) ++ map Open (filter (is_open s) (subsets 3 s))
