-- Numbers of buckets.
use Rattle.std.specs.Prelude.{◌≡◌, ℕ, ◌+◌, ◌*◌, ◌/◌, ◌<◌, true, ◌⊎◌}
use Rattle.std.proofs.Common.{arith, refl, inl, inr, subst, sym, ap, ◌∙◌, ◌%◌}
use Rattle.std.proofs.lemmas.Bool.Decides.{nat_tests}
use Rattle.point_order.specs.Coordinates.{x_of, y_of, z_of}
use Rattle.bucket_grid.specs.Grids.{is_grid_size, width_of, bucket_of}

-- the sizes, one by one
pub sizes : (g : ℕ) → is_grid_size g ≡ true → (g ≡ 1) ⊎ ((g ≡ 2) ⊎ ((g ≡ 4) ⊎ ((g ≡ 8) ⊎ (g ≡ 16))))
sizes g h = grind (arith, nat_tests)

-- a point of the range has its bucket among those of the grid
pub below : (g x y z : ℕ) → is_grid_size g ≡ true → x < 16384 → y < 16384 → z < 16384 →
    x / width_of g * g * g + y / width_of g * g + z / width_of g < g * g * g
below g x y z h i j k =
    elim (sizes g h) [
      | inl e ↦ subst P (sym e) (omega arith)
      | inr o ↦ elim o [
        | inl e ↦ subst P (sym e) (omega arith)
        | inr o ↦ elim o [
          | inl e ↦ subst P (sym e) (omega arith)
          | inr o ↦ elim o [
            | inl e ↦ subst P (sym e) (omega arith)
            | inr e ↦ subst P (sym e) (omega arith)
          ]
        ]
      ]
    ]
  where
    P : ℕ → Type 0
    P g = x / width_of g * g * g + y / width_of g * g + z / width_of g < g * g * g

-- so it is with every number, by its low bits
pub bucket_below : (g p : ℕ) → is_grid_size g ≡ true → bucket_of g p < g * g * g
unfolding bucket_of x_of y_of z_of
bucket_below g p h = below g (p / 268435456 % 16384) (p / 16384 % 16384) (p % 16384) h (omega arith) (omega arith)
    (omega arith)

-- the grid of one bucket has every point in it
pub only_bucket : (g v p : ℕ) → is_grid_size g ≡ true → g ≡ v → g ≡ 1 → 0 ≡ bucket_of v p
only_bucket g v p h e o =
    let w : v ≡ 1 = sym e ∙ o in
    let b : bucket_of v p < v * v * v = bucket_below v p (subst (λ n. is_grid_size n ≡ true) e h) in
    let c : bucket_of v p < 1 * 1 * 1 = subst (λ n. bucket_of v p < n * n * n) w b in
    omega (arith, c)

-- a part of the range by a product in place of a quotient by its width
part_is : (g c : ℕ) → is_grid_size g ≡ true → c < 16384 → c * g / 16384 ≡ c / (16384 / g)
part_is g c h l =
    elim (sizes g h) [
      | inl e ↦ subst P (sym e) (omega arith)
      | inr o ↦ elim o [
        | inl e ↦ subst P (sym e) (omega arith)
        | inr o ↦ elim o [
          | inl e ↦ subst P (sym e) (omega arith)
          | inr o ↦ elim o [
            | inl e ↦ subst P (sym e) (omega arith)
            | inr e ↦ subst P (sym e) (omega arith)
          ]
        ]
      ]
    ]
  where
    P : ℕ → Type 0
    P g = c * g / 16384 ≡ c / (16384 / g)

-- the number as the code finds it, from equal parts
pub bucket_is : (g v p a b c : ℕ) → is_grid_size g ≡ true → g ≡ v → a ≡ p → b ≡ p → c ≡ p →
    (a / 268435456 % 16384) * g / 16384 * g * g + (b / 16384 % 16384) * g / 16384 * g + (c % 16384) * g / 16384 ≡
    bucket_of v p
unfolding bucket_of x_of y_of z_of
bucket_is g v p a b c h e1 e2 e3 e4 =
    ap (λ x. x * g * g + (b / 16384 % 16384) * g / 16384 * g + (c % 16384) * g / 16384)
    (part_is g (a / 268435456 % 16384) h (omega arith))
    ∙ ap (λ y. (a / 268435456 % 16384) / (16384 / g) * g * g + y * g + (c % 16384) * g / 16384)
    (part_is g (b / 16384 % 16384) h (omega arith))
    ∙ ap (λ z. (a / 268435456 % 16384) / (16384 / g) * g * g + (b / 16384 % 16384) / (16384 / g) * g + z)
    (part_is g (c % 16384) h (omega arith))
    ∙ rw e1 (rw e2 (rw e3 (rw e4 refl)))
