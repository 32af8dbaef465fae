-- Scalar products of numbers that are known by equations.
use Rattle.std.specs.Prelude.{ℕ, ℤ, ◌≡◌}
use Rattle.std.proofs.Common.{lit<, refl, w64, to_z, of_z}
use Rattle.whole_ring.specs.Bounds.{IsWithin}
use Rattle.whole_ring.proofs.Cited.{read, within_fits}
use Rattle.point_order.specs.Orientation.{normal_x, normal_y, normal_z, square_of_step, distance}
use Rattle.point_order.specs.Sizes.{greatest_minor}
use Rattle.small_spheres.specs.Inside.{dot, square_of_normal}
use Rattle.small_spheres.specs.Within.{cell_centre_x, cell_centre_y, cell_centre_z, square_of_centre}
use Rattle.small_spheres.specs.Sizes.{greatest_scalar}

-- a coordinate of a normal is read as itself
pub read_minor : {x : ℤ} → IsWithin greatest_minor x → to_z w64 (of_z w64 x) ≡ x
read_minor h = read (within_fits w64 h (lit< tt))

-- and such a scalar product
pub read_scalar : {x : ℤ} → IsWithin greatest_scalar x → to_z w64 (of_z w64 x) ≡ x
read_scalar h = read (within_fits w64 h (lit< tt))

-- equal numbers have equal scalar products
pub same_dot : {ux uy uz vx vy vz kx ky kz lx ly lz : ℤ} → ux ≡ kx → uy ≡ ky → uz ≡ kz → vx ≡ lx → vy ≡ ly → vz ≡ lz
    → dot ux uy uz vx vy vz ≡ dot kx ky kz lx ly lz
same_dot e f g h i j = cc

-- the scalar product of a normal with itself
pub normal_with_itself : (a b c : ℕ)
    → dot (normal_x a b c) (normal_y a b c) (normal_z a b c) (normal_x a b c) (normal_y a b c) (normal_z a b c)
    ≡ square_of_normal a b c
unfolding dot square_of_normal square_of_step
normal_with_itself a b c = refl

-- the coordinates of the centre of a cell
pub centre_x_from : (a b c d : ℕ) {p q r k l m : ℤ} → p ≡ distance a b → q ≡ distance a c → r ≡ distance a d
    → k ≡ normal_x a c d → l ≡ normal_x a d b → m ≡ normal_x a b c → dot p q r k l m ≡ cell_centre_x a b c d
unfolding cell_centre_x
centre_x_from a b c d = same_dot

-- along y
pub centre_y_from : (a b c d : ℕ) {p q r k l m : ℤ} → p ≡ distance a b → q ≡ distance a c → r ≡ distance a d
    → k ≡ normal_y a c d → l ≡ normal_y a d b → m ≡ normal_y a b c → dot p q r k l m ≡ cell_centre_y a b c d
unfolding cell_centre_y
centre_y_from a b c d = same_dot

-- and along z
pub centre_z_from : (a b c d : ℕ) {p q r k l m : ℤ} → p ≡ distance a b → q ≡ distance a c → r ≡ distance a d
    → k ≡ normal_z a c d → l ≡ normal_z a d b → m ≡ normal_z a b c → dot p q r k l m ≡ cell_centre_z a b c d
unfolding cell_centre_z
centre_z_from a b c d = same_dot

-- the square of the step to the centre
same_square : {x y z k l m : ℤ} → x ≡ k → y ≡ l → z ≡ m → square_of_step x y z ≡ square_of_step k l m
same_square e f g = cc

pub centre_square_from : (a b c d : ℕ) {x y z : ℤ} → x ≡ cell_centre_x a b c d → y ≡ cell_centre_y a b c d
    → z ≡ cell_centre_z a b c d → square_of_step x y z ≡ square_of_centre a b c d
unfolding square_of_centre
centre_square_from a b c d = same_square
