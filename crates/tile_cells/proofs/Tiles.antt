-- The cells of a tile that are cells of the whole set.
use Rattle.std.specs.Prelude.{ℕ, ◌<◌, ◌^◌, ℤ, pos, Bool, true, not, ◌*ℤ◌, ◌≡◌, ◌<ℤ◌, ◌&&◌, ◌||◌, List, [], ◌∷◌}
use Rattle.std.specs.Int.Signed.{lt_z}
use Rattle.std.specs.List.{list_all}
use Rattle.std.proofs.Common.{arith, refl, inl, inr, subst}
use Rattle.std.proofs.lemmas.Int.{ints}
use Rattle.whole_ring.specs.Signs.{below, at_zero, above}
use Rattle.whole_ring.proofs.Cited.{sign, mul_pos_neg, mul_neg_pos}
use Rattle.list_laws.proofs.Cited.{all_from, all_true, among_from, among_true, both_true, first_true, second_true}
use Rattle.list_laws.proofs.Cited.{left_true, right_true, less_true}
use Rattle.point_order.specs.declared.cell.Cell.TheVariants.{Full}
use Rattle.point_order.specs.Orientation.{orientation, is_flat}
use Rattle.point_order.specs.Heights.{sphere_polynomial, out}
use Rattle.point_order.specs.Spheres.{is_outside}
use Rattle.point_order.specs.Sets.{IsIn, is_among}
use Rattle.point_order.specs.Complex.{is_full}
use Rattle.point_order.proofs.Cited.{out_sign}
use Rattle.small_spheres.specs.Boxes.{is_inside_box}
use Rattle.del_laws.specs.Vertices.{are_among}
use Rattle.del_laws.specs.Listed.{IsListedFull}
use Rattle.del_laws.proofs.Cited.{listed_is_cell, cell_is_listed}
use Rattle.tile_cells.specs.Tiles.{InsideBoxIsWhole, ListedInsideBoxIsWhole}
use Rattle.tile_cells.proofs.Walls.{outside}
use Rattle.whole_ring.proofs.Cited.{pos_of_mul_pos as same_above}

same_below : (o p : ℤ) → o <ℤ pos 0 → pos 0 <ℤ (o *ℤ p) → p <ℤ pos 0
same_below o p h k = elim (sign p) [
  | below l ↦ l
  | at_zero z ↦ absurd (omega (arith, ints, subst (λ v. pos 0 <ℤ (o *ℤ v)) z k))
  | above l ↦ absurd (omega (arith, ints, mul_neg_pos o p h l))
]

-- strictly outside the plain sphere, and so outside the perturbed one
by_polynomial : (a b c d e : ℕ) → a < 2 ^ 42 → b < 2 ^ 42 → c < 2 ^ 42 → d < 2 ^ 42 → e < 2 ^ 42 →
    pos 0 <ℤ (orientation a b c d *ℤ sphere_polynomial a b c d e) → is_outside a b c d e ≡ true
by_polynomial a b c d e ha hb hc hd he k =
    let o = orientation a b c d in
    let p = sphere_polynomial a b c d e in
    let q = out a b c d e in
    let h = out_sign a b c d e ha hb hc hd he in
    elim (sign o) [
      | below l ↦ right_true (lt_z (pos 0) o && lt_z (pos 0) q) (lt_z o (pos 0) && lt_z q (pos 0))
          (both_true (lt_z o (pos 0)) (lt_z q (pos 0)) (less_true o (pos 0) l)
          (less_true q (pos 0) (h.negative (same_below o p l k))))
      | at_zero z ↦ absurd (omega (arith, ints, subst (λ v. pos 0 <ℤ (v *ℤ p)) z k))
      | above l ↦ left_true (lt_z (pos 0) o && lt_z (pos 0) q) (lt_z o (pos 0) && lt_z q (pos 0))
          (both_true (lt_z (pos 0) o) (lt_z (pos 0) q) (less_true (pos 0) o l)
          (less_true (pos 0) q (h.positive (same_above o p l k))))
    ]

-- the test of a point in the definition of a Full cell
abbrev passes : ℕ → ℕ → ℕ → ℕ → ℕ → Bool
passes a b c d e = is_among e (a ∷ b ∷ c ∷ d ∷ []) || is_outside a b c d e

-- the law InsideBoxIsWhole
pub inside_box_is_whole : InsideBoxIsWhole
inside_box_is_whole t s low high a b c d k w f i =
    both_true (are_among (a ∷ b ∷ c ∷ d ∷ []) s) (is_full s (a ∷ b ∷ c ∷ d ∷ []))
    (all_true (λ p. is_among p s) (a ∷ b ∷ c ∷ d ∷ []) (λ p m. among_true p s (w.part p (in_t p m))))
    (both_true (not (is_flat a b c d)) (list_all (passes a b c d) s)
    (first_true (not (is_flat a b c d)) (list_all (passes a b c d) t) full)
    (all_true (passes a b c d) s each))
  where
    -- the four are in the part
    in_t : (p : ℕ) → IsIn p (a ∷ b ∷ c ∷ d ∷ []) → IsIn p t
    in_t p m =
        among_from p t (all_from (λ p. is_among p t) (a ∷ b ∷ c ∷ d ∷ [])
        (first_true (are_among (a ∷ b ∷ c ∷ d ∷ []) t) (is_full t (a ∷ b ∷ c ∷ d ∷ [])) f) p m)

    -- they are so by the definition
    full : is_full t (a ∷ b ∷ c ∷ d ∷ []) ≡ true
    full = second_true (are_among (a ∷ b ∷ c ∷ d ∷ []) t) (is_full t (a ∷ b ∷ c ∷ d ∷ [])) f

    -- keys
    key : (p : ℕ) → IsIn p (a ∷ b ∷ c ∷ d ∷ []) → p < 2 ^ 42
    key p m = k.below p (w.part p (in_t p m))

    -- each point of the set
    each : (e : ℕ) → IsIn e s → passes a b c d e ≡ true
    each e m = elim (w.others e m) [
      | inl j ↦ all_from (passes a b c d) t
          (second_true (not (is_flat a b c d)) (list_all (passes a b c d) t) full) e j
      | inr j ↦ right_true (is_among e (a ∷ b ∷ c ∷ d ∷ [])) (is_outside a b c d e)
          (by_polynomial a b c d e (key a (inl refl)) (key b (inr (inl refl))) (key c (inr (inr (inl refl))))
          (key d (inr (inr (inr (inl refl))))) (k.below e m) (outside a b c d low high e i j))
    ]

-- the law ListedInsideBoxIsWhole
pub listed_inside_box_is_whole : ListedInsideBoxIsWhole
listed_inside_box_is_whole t s low high a b c d ta sa k w m i =
    cell_is_listed s (Full (a ∷ b ∷ c ∷ d ∷ [])) sa (moved (listed_is_cell t (Full (a ∷ b ∷ c ∷ d ∷ [])) ta m))
  where
    -- the four of the record are these
    moved : IsListedFull t (a ∷ b ∷ c ∷ d ∷ []) → IsListedFull s (a ∷ b ∷ c ∷ d ∷ [])
    moved l = record {
      a = l.a;
      b = l.b;
      c = l.c;
      d = l.d;
      is = l.is;
      first = l.first;
      second = l.second;
      third = l.third;
      test = inside_box_is_whole t s low high l.a l.b l.c l.d k w l.test (subst inside l.is i);
    }
      where
        -- the test, of a list of four
        inside : List ℕ → Type 0
        inside (a ∷ b ∷ c ∷ d ∷ []) = is_inside_box a b c d low high ≡ true
        inside _ = Unit {0}
