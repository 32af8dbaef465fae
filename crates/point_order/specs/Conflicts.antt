-- The conflict of a cell with a point that is added: the point takes the cell away.
use Rattle.std.specs.Prelude.{◌≡◌, ℕ, Bool, false, not, ◌&&◌, ◌||◌, List, [], ◌∷◌, pos}
use Rattle.std.specs.Int.Signed.{lt_z}
use Rattle.point_order.specs.Orientation.{orientation, is_flat}
use Rattle.point_order.specs.Spheres.{is_outside}
use Rattle.point_order.specs.Sets.{is_among}
use Rattle.point_order.specs.declared.cell.Cell.{Cell}
use Rattle.point_order.specs.declared.cell.Cell.TheVariants.{Full, Open}

-- m and p lie strictly on opposite sides of the plane of a, b, c
abbrev pub are_opposite : ℕ → ℕ → ℕ → ℕ → ℕ → Bool
are_opposite a b c m p =
    (lt_z (pos 0) (orientation a b c m) && lt_z (orientation a b c p) (pos 0))
    || (lt_z (orientation a b c m) (pos 0) && lt_z (pos 0) (orientation a b c p))

-- p is not outside the perturbed sphere of a Full cell
abbrev pub is_full_conflict : List ℕ → ℕ → Bool
is_full_conflict (a ∷ b ∷ c ∷ d ∷ []) p = not (is_outside a b c d p)
is_full_conflict _ p = false

-- p lies beyond the plane of an Open cell, as seen from its mate m, a point on the inner side,
-- or in that plane and not outside the perturbed sphere of the cell and m
abbrev pub is_open_conflict : List ℕ → ℕ → ℕ → Bool
is_open_conflict (a ∷ b ∷ c ∷ []) m p =
    are_opposite a b c m p || (is_flat a b c p && not (is_outside a b c m p))
is_open_conflict _ m p = false

-- of a Full cell the mate is not looked at
abbrev pub is_in_conflict : Cell → ℕ → ℕ → Bool
is_in_conflict (Full q) m p = is_full_conflict q p
is_in_conflict (Open t) m p = is_open_conflict t m p

-- conflict with a Full cell is decided for four independent points and a fifth
abbrev pub CanJudgeFull : List ℕ → ℕ → Type 0
CanJudgeFull (a ∷ b ∷ c ∷ d ∷ []) p = (is_flat a b c d ≡ false) × (is_among p (a ∷ b ∷ c ∷ d ∷ []) ≡ false)
CanJudgeFull _ p = ⊥

-- and with an Open cell for a mate off its plane, and a point that is neither one of the cell's nor the mate
abbrev pub CanJudgeOpen : List ℕ → ℕ → ℕ → Type 0
CanJudgeOpen (a ∷ b ∷ c ∷ []) m p = (is_flat a b c m ≡ false) × (is_among p (a ∷ b ∷ c ∷ m ∷ []) ≡ false)
CanJudgeOpen _ m p = ⊥

abbrev pub CanJudge : Cell → ℕ → ℕ → Type 0
CanJudge (Full q) m p = CanJudgeFull q p
CanJudge (Open t) m p = CanJudgeOpen t m p
