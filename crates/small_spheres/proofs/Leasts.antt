-- Squares of steps, and the test of least alphas.
use Rattle.std.specs.Prelude.{ℕ, ℤ, ◌≡◌, ◌*◌, pos, ◌*ℤ◌, ◌≤ℤ◌, nat_le, [], ◌∷◌}
use Rattle.std.specs.Int.Signed.{le_z}
use Rattle.std.proofs.Common.{◌∙◌, ap, arith, sym}
use Rattle.std.proofs.lemmas.Int.{ints}
use Rattle.point_order.specs.Orientation.{square_of_step}
use Rattle.whole_ring.specs.Poly.{var, ◌⊗◌}
use Rattle.whole_ring.proofs.Cited.{ring, square_nonneg}

-- the square of a step is not below 0
pub step_square : (x y z : ℤ) → pos 0 ≤ℤ square_of_step x y z
unfolding square_of_step
step_square x y z = (
    let a = square_nonneg x in
    let b = square_nonneg y in
    let c = square_nonneg z in
    omega (arith, ints, a, b, c))

-- the test of which the least alpha is asked, at equal numbers
pub same_test : {p d q e : ℤ} (alpha : ℕ) → p ≡ q → d ≡ e → le_z p (d *ℤ pos alpha) ≡ le_z q (e *ℤ pos alpha)
same_test {p} {d} {q} {e} alpha h k = ap (λ z. le_z z (d *ℤ pos alpha)) h ∙ ap (λ z. le_z q (z *ℤ pos alpha)) k

-- of a whole number, at an equal one
pub same_whole : {p : ℤ} (n alpha : ℕ) → pos n ≡ p → le_z p (pos alpha) ≡ nat_le n alpha
same_whole n alpha e = ap (λ z. le_z z (pos alpha)) (sym e)

-- four times a number, and four times another
four_times : (p q : ℤ) → le_z (pos 4 *ℤ p) (pos 4 *ℤ q) ≡ le_z p q
four_times p q = grind (arith, ints)

-- sixteen times a whole number in the test
sixteen : (d : ℤ) (r : ℕ) → d *ℤ pos (16 * r) ≡ pos 4 *ℤ (pos 4 *ℤ d *ℤ pos r)
sixteen d r =
    ring (var 0 ⊗ (var 1 ⊗ var 1 ⊗ var 2)) (var 1 ⊗ (var 1 ⊗ var 0 ⊗ var 2)) (d ∷ pos 4 ∷ pos r ∷ []) tt

-- within sixteen times a whole number is a squared radius of at most the number
pub within_whole : (p d : ℤ) (r : ℕ) → le_z (pos 4 *ℤ p) (d *ℤ pos (16 * r)) ≡ le_z p (pos 4 *ℤ d *ℤ pos r)
within_whole p d r = ap (λ z. le_z (pos 4 *ℤ p) z) (sixteen d r) ∙ four_times p (pos 4 *ℤ d *ℤ pos r)
