-- The search for four independent points where one point may be passed over.
use Rattle.std.specs.Prelude.{ℕ, Bool, true, not, ◌==◌, ◌&&◌, List, Option, None, Some, slice_index}
use Rattle.std.specs.List.{filter, position_from}
use Rattle.std.specs.Option.{option_and_then, option_map}
use Rattle.point_order.specs.Orientation.{is_flat, is_collinear}
use Rattle.edit_history.specs.Opening.{next_place, FourPlaces}

-- the point is not the one that is passed over
abbrev pub is_kept : Option ℕ → ℕ → Bool
is_kept None q = true
is_kept (Some p) q = not (q == p)

-- the points without the one that is passed over
abbrev pub kept : Option ℕ → List ℕ → List ℕ
kept absent points = filter (is_kept absent) points

-- the places of the opening four of the points that are kept
abbrev pub four_but : Option ℕ → List ℕ → Option FourPlaces
four_but absent points =
    option_and_then
    (λ i.
    let a = slice_index points i in
    option_and_then
    (λ j.
    let b = slice_index points j in
    option_and_then
    (λ k.
    let c = slice_index points k in
    option_map
    (λ l. record { first = i; second = j; third = k; fourth = l })
    (next_place (λ d. is_kept absent d && not (is_flat a b c d)) k points))
    (next_place (λ c. is_kept absent c && not (is_collinear a b c)) j points))
    (next_place (λ b. is_kept absent b && not (b == a)) i points))
    (position_from (is_kept absent) 0 points)
