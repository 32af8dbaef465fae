-- An Open cell by the tests of its flaws.
use Rattle.std.specs.Prelude.{◌≡◌, refl, ℕ, ℤ, pos, neg_ℤ, ◌≤ℤ◌, ◌<ℤ◌, Bool, true, false, not, ◌&&◌, ◌||◌, List, []}
use Rattle.std.specs.Prelude.{◌∷◌, Option, None, Some}
use Rattle.std.specs.Int.Signed.{lt_z, le_z}
use Rattle.std.specs.List.{find, list_all}
use Rattle.std.proofs.Common.{arith, inl, inr, ap, sym, subst, ◌∙◌}
use Rattle.std.proofs.lemmas.Int.{ints}
use Rattle.whole_ring.specs.Signs.{below, at_zero, above}
use Rattle.whole_ring.proofs.Cited.{sign}
use Rattle.list_laws.proofs.Cited.{IsFound, all_from, all_true, both_true, clash, false_if, first_true as first_of_two}
use Rattle.list_laws.proofs.Cited.{found_from, left_true, less_from, less_true, most_from, most_true, not_below}
use Rattle.list_laws.proofs.Cited.{not_both, not_from, not_true, one_true, right_true, second_true, two_signs}
use Rattle.point_order.specs.declared.cell.Cell.TheVariants.{Open}
use Rattle.point_order.specs.Orientation.{orientation, is_flat, is_zero, is_collinear}
use Rattle.point_order.specs.Heights.{out}
use Rattle.point_order.specs.Conflicts.{are_opposite}
use Rattle.point_order.specs.Spheres.{is_outside}
use Rattle.point_order.specs.Sets.{IsIn, is_among}
use Rattle.point_order.specs.Complex.{is_open, is_open_from, is_empty_in_plane}
use Rattle.point_order.proofs.Cited.{not_zero_from, swap_middle}
use Rattle.mesh_check.specs.Flaws.{is_inside_with}
use Rattle.mesh_check.proofs.Flaws.{IsSound, found, find_same}
use Rattle.mesh_check.proofs.Turned.{opposite_turned, off_turned, inside_turned}

-- ---- signs

-- of a number that is not negative
not_zero_is : (z : ℤ) → pos 0 ≤ℤ z → not (is_zero z) ≡ lt_z (pos 0) z
not_zero_is z h = go (lt_z (pos 0) z) (lt_z z (pos 0))
    (false_if (lt_z z (pos 0)) (λ t. clash z (less_from z (pos 0) t) h))
  where
    -- of the two tests
    go : (p q : Bool) → q ≡ false → not (not p && not q) ≡ p
    go true q e = refl
    go false q e = rw e refl

-- a negative number is opposite a positive one
opposite_true : (u v : ℤ) → pos 0 <ℤ u → v <ℤ pos 0 →
    ((lt_z (pos 0) u && lt_z v (pos 0)) || (lt_z u (pos 0) && lt_z (pos 0) v)) ≡ true
opposite_true u v h k = left_true (lt_z (pos 0) u && lt_z v (pos 0)) (lt_z u (pos 0) && lt_z (pos 0) v)
    (both_true (lt_z (pos 0) u) (lt_z v (pos 0)) (less_true (pos 0) u h) (less_true v (pos 0) k))

-- numbers that are not negative are not opposite
opposite_false : (u v : ℤ) → pos 0 ≤ℤ u → pos 0 ≤ℤ v →
    ((lt_z (pos 0) u && lt_z v (pos 0)) || (lt_z u (pos 0) && lt_z (pos 0) v)) ≡ false
opposite_false u v h k = go (lt_z (pos 0) u) (lt_z v (pos 0)) (lt_z u (pos 0)) (lt_z (pos 0) v)
    (false_if (lt_z v (pos 0)) (λ t. clash v (less_from v (pos 0) t) k))
    (false_if (lt_z u (pos 0)) (λ t. clash u (less_from u (pos 0) t) h))
  where
    -- of the four tests
    go : (p q r t : Bool) → q ≡ false → r ≡ false → ((p && q) || (r && t)) ≡ false
    go true q r t e f = rw (e, f) refl
    go false q r t e f = rw f refl

-- ---- seen from above

-- outside, from the lifted determinant
outside_true : (a b c f e : ℕ) → pos 0 <ℤ orientation a b c f → lt_z (pos 0) (out a b c f e) ≡ true →
    is_outside a b c f e ≡ true
outside_true a b c f e o t =
    left_true (lt_z (pos 0) (orientation a b c f) && lt_z (pos 0) (out a b c f e))
    (lt_z (orientation a b c f) (pos 0) && lt_z (out a b c f e) (pos 0))
    (both_true (lt_z (pos 0) (orientation a b c f)) (lt_z (pos 0) (out a b c f e))
    (less_true (pos 0) (orientation a b c f) o) t)

-- and back
outside_from : (a b c f e : ℕ) → pos 0 <ℤ orientation a b c f → is_outside a b c f e ≡ true →
    lt_z (pos 0) (out a b c f e) ≡ true
outside_from a b c f e o t = elim (one_true (lt_z (pos 0) (orientation a b c f) && lt_z (pos 0) (out a b c f e))
    (lt_z (orientation a b c f) (pos 0) && lt_z (out a b c f e) (pos 0)) t) [
      | inl u ↦ second_true (lt_z (pos 0) (orientation a b c f)) (lt_z (pos 0) (out a b c f e)) u
      | inr u ↦ absurd (two_signs (orientation a b c f) o
          (less_from (orientation a b c f) (pos 0) (first_of_two (lt_z (orientation a b c f) (pos 0))
          (lt_z (out a b c f e) (pos 0)) u)))
    ]

-- one of three, by the third
third_by : (p q r t : Bool) → (r ≡ true → t ≡ true) → (p || q || r) ≡ true → (p || q || t) ≡ true
third_by true q r t f e = refl
third_by false true r t f e = refl
third_by false false r t f e = f e

-- what is not false is true
not_false : (p : Bool) → not p ≡ false → p ≡ true
not_false true e = refl
not_false false e = cc

-- what is true is not false
pub true_not : (p : Bool) → p ≡ true → not p ≡ false
true_not true e = refl
true_not false e = cc

-- the first point off the plane is the first above it, where none is below
first_above : (s : List ℕ) (a b c : ℕ) → ((e : ℕ) → IsIn e s → pos 0 ≤ℤ orientation a b c e) →
    find (λ f. not (is_flat a b c f)) s ≡ find (λ f. lt_z (pos 0) (orientation a b c f)) s
first_above s a b c h = find_same (λ f. not (is_flat a b c f)) (λ f. lt_z (pos 0) (orientation a b c f)) s
    (λ f m. not_zero_is (orientation a b c f) (h f m))

-- seen in this order the three pass the definition
open_from_tests : (s : List ℕ) (a b c f : ℕ) → find (λ f. not (is_flat a b c f)) s ≡ Some f →
    pos 0 <ℤ orientation a b c f → ((e : ℕ) → IsIn e s → are_opposite a b c f e ≡ false) →
    ((p : ℕ) → IsIn p s → is_inside_with a b c p (Some f) ≡ false) → is_open_from s a b c ≡ true
open_from_tests s a b c f i o ht ho =
    both_true (list_all (λ e. le_z (pos 0) (orientation a b c e)) s)
    (is_empty_in_plane s a b c (find (λ f. lt_z (pos 0) (orientation a b c f)) s))
    (all_true (λ e. le_z (pos 0) (orientation a b c e)) s
    (λ e m. most_true (pos 0) (orientation a b c e) (not_under e m)))
    (subst (λ v. is_empty_in_plane s a b c v ≡ true) (sym i ∙ first_above s a b c not_under)
    (all_true (λ e. is_among e (a ∷ b ∷ c ∷ []) || not (is_flat a b c e) || lt_z (pos 0) (out a b c f e)) s
    (λ e m. third_by (is_among e (a ∷ b ∷ c ∷ [])) (not (is_flat a b c e)) (is_outside a b c f e)
    (lt_z (pos 0) (out a b c f e)) (outside_from a b c f e o)
    (not_false (is_among e (a ∷ b ∷ c ∷ []) || not (is_flat a b c e) || is_outside a b c f e) (ho e m)))))
  where
    -- no point is below the plane
    not_under : (e : ℕ) → IsIn e s → pos 0 ≤ℤ orientation a b c e
    not_under e m = not_below (orientation a b c e)
        (λ l. not_both (are_opposite a b c f e) (opposite_true (orientation a b c f) (orientation a b c e) o l)
        (ht e m))

-- what the definition says in this order
pub record IsSeen (s : List ℕ) (a b c : ℕ) : Type 0 where
  pub together : (e f : ℕ) → IsIn e s → IsIn f s → are_opposite a b c e f ≡ false
  pub outside : (p : ℕ) → IsIn p s → is_inside_with a b c p (find (λ f. not (is_flat a b c f)) s) ≡ false

-- the three seen in this order
tests_from_open : (s : List ℕ) (a b c : ℕ) → is_open_from s a b c ≡ true → IsSeen s a b c
tests_from_open s a b c t = record {
  together = λ e f me mf. opposite_false (orientation a b c e) (orientation a b c f) (not_under e me) (not_under f mf);
  outside = λ p m. subst (λ v. is_inside_with a b c p v ≡ false) (sym (first_above s a b c not_under))
      (go (find (λ f. lt_z (pos 0) (orientation a b c f)) s) refl empty p m);
}
  where
    -- no point is below the plane
    not_under : (e : ℕ) → IsIn e s → pos 0 ≤ℤ orientation a b c e
    not_under e m = most_from (pos 0) (orientation a b c e)
        (all_from (λ e. le_z (pos 0) (orientation a b c e)) s
        (first_of_two (list_all (λ e. le_z (pos 0) (orientation a b c e)) s)
        (is_empty_in_plane s a b c (find (λ f. lt_z (pos 0) (orientation a b c f)) s)) t) e m)

    -- the plane is empty
    empty : is_empty_in_plane s a b c (find (λ f. lt_z (pos 0) (orientation a b c f)) s) ≡ true
    empty = second_true (list_all (λ e. le_z (pos 0) (orientation a b c e)) s)
        (is_empty_in_plane s a b c (find (λ f. lt_z (pos 0) (orientation a b c f)) s)) t

    -- by the point above it
    go : (o : Option ℕ) → find (λ f. lt_z (pos 0) (orientation a b c f)) s ≡ o → is_empty_in_plane s a b c o ≡ true →
        (p : ℕ) → IsIn p s → is_inside_with a b c p o ≡ false
    go None i h p m = refl
    go (Some f) i h p m =
        true_not (is_among p (a ∷ b ∷ c ∷ []) || not (is_flat a b c p) || is_outside a b c f p)
        (third_by (is_among p (a ∷ b ∷ c ∷ [])) (not (is_flat a b c p)) (lt_z (pos 0) (out a b c f p))
        (is_outside a b c f p)
        (outside_true a b c f p (less_from (pos 0) (orientation a b c f)
        (found (λ f. lt_z (pos 0) (orientation a b c f)) s f i).1))
        (all_from (λ e. is_among e (a ∷ b ∷ c ∷ []) || not (is_flat a b c e) || lt_z (pos 0) (out a b c f e)) s h p m))

-- ---- in either order

-- the same, of the other order
seen_turned : (s : List ℕ) (a b c : ℕ) → IsSeen s a c b → IsSeen s a b c
seen_turned s a b c r = record {
  together = λ e f me mf. sym (opposite_turned a b c e f) ∙ r.together e f me mf;
  outside = λ p m. sym (inside_turned a b c p (find (λ f. not (is_flat a b c f)) s))
      ∙ ap (is_inside_with a c b p) (sym (off_turned s a b c)) ∙ r.outside p m;
}

-- three points that pass the definition have no flaw
pub open_is_sound : (s : List ℕ) (a b c : ℕ) → is_open s (a ∷ b ∷ c ∷ []) ≡ true → IsSound s (Open (a ∷ b ∷ c ∷ []))
open_is_sound s a b c t =
    let seen = elim (one_true (is_open_from s a b c) (is_open_from s a c b)
    (second_true (not (is_collinear a b c)) (is_open_from s a b c || is_open_from s a c b) t))
    as (λ _. IsSeen s a b c) [
      | inl u ↦ tests_from_open s a b c u
      | inr u ↦ seen_turned s a b c (tests_from_open s a c b u)
    ] in
    record {
      upright = not_from (is_collinear a b c) (first_of_two (not (is_collinear a b c))
          (is_open_from s a b c || is_open_from s a c b) t);
      together = seen.together;
      outside = seen.outside;
    }

-- three points without a flaw, where some point is off their plane, pass the definition
pub sound_is_open : (s : List ℕ) (a b c x : ℕ) → IsSound s (Open (a ∷ b ∷ c ∷ [])) → IsIn x s →
    is_flat a b c x ≡ false → is_open s (a ∷ b ∷ c ∷ []) ≡ true
sound_is_open s a b c x r m n =
    both_true (not (is_collinear a b c)) (is_open_from s a b c || is_open_from s a c b)
    (not_true (is_collinear a b c) r.upright)
    (by_sign (found_from (λ f. not (is_flat a b c f)) s x m (not_true (is_flat a b c x) n)))
  where
    -- with the first point off the plane
    at : (f : ℕ) → find (λ f. not (is_flat a b c f)) s ≡ Some f → IsIn f s → not (is_flat a b c f) ≡ true →
        (is_open_from s a b c || is_open_from s a c b) ≡ true
    at f i mf off = elim (sign (orientation a b c f)) [
      | above l ↦ left_true (is_open_from s a b c) (is_open_from s a c b)
          (open_from_tests s a b c f i l (λ e me. r.together f e mf me)
          (λ p mp. subst (λ v. is_inside_with a b c p v ≡ false) i (r.outside p mp)))
      | at_zero z ↦ absurd (not_zero_from (orientation a b c f) (not_from (is_flat a b c f) off) z)
      | below l ↦ right_true (is_open_from s a b c) (is_open_from s a c b)
          (open_from_tests s a c b f (off_turned s a b c ∙ i)
          (turned (orientation a b c f) (orientation a c b f) l (swap_middle a b c f))
          (λ e me. opposite_turned a b c f e ∙ r.together f e mf me)
          (λ p mp. inside_turned a b c p (Some f) ∙ subst (λ v. is_inside_with a b c p v ≡ false) i (r.outside p mp)))
    ]
      where
        -- the opposite of a negative number
        turned : (u v : ℤ) → u <ℤ pos 0 → v ≡ neg_ℤ u → pos 0 <ℤ v
        turned u v h e = omega (arith, ints)

    -- what is found
    by_sign : IsFound (λ f. not (is_flat a b c f)) s → (is_open_from s a b c || is_open_from s a c b) ≡ true
    by_sign g = at g.at g.is g.has g.holds
