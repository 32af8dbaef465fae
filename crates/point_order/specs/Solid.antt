-- Sets with four independent points.
use Rattle.std.specs.Prelude.{ℕ, Bool, not, List}
use Rattle.std.specs.List.{list_any}
use Rattle.point_order.specs.Orientation.{is_flat}

-- four points of the list do not lie in one plane
abbrev pub is_solid : List ℕ → Bool
is_solid s = list_any (λ a. list_any (λ b. list_any (λ c. list_any (λ d. not (is_flat a b c d)) s) s) s) s
