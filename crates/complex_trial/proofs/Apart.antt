-- Points that differ, since they lie in different places.
use Rattle.std.proofs.Common.{◌≡◌, ◌≢◌, refl, sym, ap, ◌∙◌, ℕ, ℤ, pos, ◌<ℤ◌, arith}
use Rattle.std.proofs.lemmas.Int.{ints}
use Rattle.std.specs.Prelude.{Bool, true, false, List, [], ◌∷◌, Some}
use Rattle.std.specs.List.{find}
use Rattle.std.specs.Int.Signed.{lt_z}
use Rattle.std.proofs.lemmas.Bool.Decides.{nat_tests}
use Rattle.list_laws.proofs.Cited.{not_zero}
use Rattle.point_order.specs.Orientation.{orientation, is_flat}
use Rattle.point_order.specs.Sets.{AreThree, AreFive, is_among}
use Rattle.point_order.proofs.Cited.{last_first, last_second, last_third, zero_from}

-- what the test finds to be above 0 is so
pub above_is : (z : ℤ) → lt_z (pos 0) z ≡ true → pos 0 <ℤ z
above_is z h = grind (arith, ints)

-- what is found passes the test
pub found_passes : (p : ℕ → Bool) (s : List ℕ) (x : ℕ) → find p s ≡ Some x → p x ≡ true
found_passes p [] x e = cc
found_passes p (y ∷ s) x e = by_test (p y) refl (found_passes p s x)
  where
    by_test : (t : Bool) → p y ≡ t → (find p s ≡ Some x → p x ≡ true) → p x ≡ true
    by_test true q r = let f : Some y ≡ Some x = sym (found_here q) ∙ e in let g : y ≡ x = cc in sym (ap p g) ∙ q
      where
        found_here : p y ≡ true → find p (y ∷ s) ≡ Some y
        found_here h = rw h refl
    by_test false q r = r (sym (passed q) ∙ e)
      where
        passed : p y ≡ false → find p (y ∷ s) ≡ find p s
        passed h = rw h refl

-- the three, a point above their plane and a point in it that is none of them are five
pub five_above : (a b c m e : ℕ) → AreThree a b c → pos 0 <ℤ orientation a b c m → e ≢ a → e ≢ b → e ≢ c →
    is_flat a b c e ≡ true → AreFive a b c m e
five_above a b c m e n h ea eb ec f =
    let apart : (v : ℕ) → orientation a b c v ≡ pos 0 → v ≢ m =
    λ v z q. not_zero (orientation a b c m) h (ap (orientation a b c) (sym q) ∙ z) in (
      n.0,
      n.1,
      apart a (last_first a b c),
      (λ q. ea (sym q)),
      n.2,
      apart b (last_second a b c),
      (λ q. eb (sym q)),
      apart c (last_third a b c),
      (λ q. ec (sym q)),
      (λ q. apart e (zero_from (orientation a b c e) f) (sym q)),
    )

-- the same where e is tested for being one of the three
pub five_off : (a b c m e : ℕ) → AreThree a b c → pos 0 <ℤ orientation a b c m → is_among e (a ∷ b ∷ c ∷ []) ≡ false →
    is_flat a b c e ≡ true → AreFive a b c m e
five_off a b c m e n h f g =
    let na : e ≢ a = grind (arith, nat_tests) in
    let nb : e ≢ b = grind (arith, nat_tests) in
    let nc : e ≢ c = grind (arith, nat_tests) in
    five_above a b c m e n h na nb nc g
