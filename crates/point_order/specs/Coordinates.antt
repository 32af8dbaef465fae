-- A point, which contracts see as its key: x * 2^28 + y * 2^14 + z.
use Rattle.std.specs.Prelude.{◌≡◌, ℕ, ◌/◌, ◌%◌, ◌^◌, ◌<◌, ◌⊎◌, ℤ, pos, ◌≤ℤ◌, ◌<ℤ◌}
use Rattle.point_order.specs.declared.point.OutOfRange.{OutOfRange}

-- the coordinates of the point with a key
unfoldable pub x_of : ℕ → ℕ
x_of key = key / 268435456 % 16384

unfoldable pub y_of : ℕ → ℕ
y_of key = key / 16384 % 16384

unfoldable pub z_of : ℕ → ℕ
z_of key = key % 16384

-- A number that is the key of a point. A law that needs distinct points to lie in distinct places asks for it.
abbrev pub IsKey : ℕ → Type 0
IsKey key = key < 2 ^ 42

-- 0 to 16383
abbrev pub IsCoordinate : ℤ → Type 0
IsCoordinate v = (pos 0 ≤ℤ v) × (v <ℤ pos 16384)

abbrev pub IsNoCoordinate : ℤ → Type 0
IsNoCoordinate v = (v <ℤ pos 0) ⊎ (pos 16384 ≤ℤ v)

-- the error names the first of the three that is no coordinate, by its place and its value
abbrev pub IsFirstOutside : ℤ → ℤ → ℤ → OutOfRange → Type 0
IsFirstOutside x y z e =
    ((e.axis ≡ 0) × (e.value ≡ x) × IsNoCoordinate x)
    ⊎ ((e.axis ≡ 1) × (e.value ≡ y) × IsCoordinate x × IsNoCoordinate y)
    ⊎ ((e.axis ≡ 2) × (e.value ≡ z) × IsCoordinate x × IsCoordinate y × IsNoCoordinate z)
