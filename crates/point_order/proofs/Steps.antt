-- Determinants and squares of steps whose coordinates are known by equations.
use Rattle.std.proofs.Common.{ℕ, ℤ, ◌≡◌}
use Rattle.point_order.specs.Orientation.{x_from, y_from, z_from, minor, triple, normal_x, normal_y, normal_z}
use Rattle.point_order.specs.Orientation.{orientation, square_of_step, distance}

-- equal numbers have equal determinants and squares
pub same_minor : {p q r s k l m n : ℤ} → p ≡ k → q ≡ l → r ≡ m → s ≡ n → minor p q r s ≡ minor k l m n
same_minor e f g h = cc

-- three steps that are these have the determinant of these
same_triple : {ux uy uz vx vy vz wx wy wz kx ky kz lx ly lz mx my mz : ℤ} → ux ≡ kx → uy ≡ ky → uz ≡ kz → vx ≡ lx
    → vy ≡ ly → vz ≡ lz → wx ≡ mx → wy ≡ my → wz ≡ mz
    → triple ux uy uz vx vy vz wx wy wz ≡ triple kx ky kz lx ly lz mx my mz
same_triple a b c d e f g h i = cc

-- and one that is this has its square
same_square : {x y z k l m : ℤ} → x ≡ k → y ≡ l → z ≡ m → square_of_step x y z ≡ square_of_step k l m
same_square e f g = cc

-- the square of the step from one point to another is that of their distance
pub distance_from : (a b : ℕ) {x y z : ℤ} → x ≡ x_from a b → y ≡ y_from a b → z ≡ z_from a b
    → square_of_step x y z ≡ distance a b
unfolding distance
distance_from a b = same_square

-- the determinant of three steps from a point is the orientation
pub orientation_from : (a b c d : ℕ) {ux uy uz vx vy vz wx wy wz : ℤ} → ux ≡ x_from a b → uy ≡ y_from a b
    → uz ≡ z_from a b → vx ≡ x_from a c → vy ≡ y_from a c → vz ≡ z_from a c → wx ≡ x_from a d → wy ≡ y_from a d
    → wz ≡ z_from a d → triple ux uy uz vx vy vz wx wy wz ≡ orientation a b c d
unfolding orientation
orientation_from a b c d = same_triple

-- the determinants of two steps from a point are the coordinates of the normal
pub normal_x_from : (a b c : ℕ) {uy uz vy vz : ℤ} → uy ≡ y_from a b → uz ≡ z_from a b → vy ≡ y_from a c
    → vz ≡ z_from a c → minor uy uz vy vz ≡ normal_x a b c
unfolding normal_x
normal_x_from a b c = same_minor

-- so along y
pub normal_y_from : (a b c : ℕ) {uz ux vz vx : ℤ} → uz ≡ z_from a b → ux ≡ x_from a b → vz ≡ z_from a c
    → vx ≡ x_from a c → minor uz ux vz vx ≡ normal_y a b c
unfolding normal_y
normal_y_from a b c = same_minor

-- and along z
pub normal_z_from : (a b c : ℕ) {ux uy vx vy : ℤ} → ux ≡ x_from a b → uy ≡ y_from a b → vx ≡ x_from a c
    → vy ≡ y_from a c → minor ux uy vx vy ≡ normal_z a b c
unfolding normal_z
normal_z_from a b c = same_minor
