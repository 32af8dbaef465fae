use Rattle.std.proofs.Common.{◌≡◌, ℕ, ℤ, ◌∙◌, refl, sym, ap, w64, to_z, of_z, lit<}
use Rattle.std.specs.Prelude.{Bool, true, false, not, ◌&&◌, ◌||◌, nat_lt}
use Rattle.std.specs.Int.Signed.{lt_z}
use Rattle.whole_ring.specs.Bounds.{IsWithin}
use Rattle.whole_ring.proofs.Cited.{read, within_fits}
use Rattle.std.proofs.Common.{arith, is_lt, nat_cmp}
use Rattle.std.proofs.lemmas.Bool.Decides.{nat_tests}
use Rattle.point_order.specs.Orientation.{distance}
use Rattle.point_order.specs.Sizes.{greatest_square}
use Rattle.nearest_points.proofs.search.comes_before.Goals as goal

-- what is read again is the distance
again : {x d : ℤ} → IsWithin greatest_square x → x ≡ d → to_z w64 (of_z w64 x) ≡ d
again h e = read (within_fits w64 h (lit< tt)) ∙ e

-- the test of keys
lt_is : (a b : ℕ) → is_lt (nat_cmp a b) ≡ nat_lt a b
lt_is a b = grind (arith, nat_tests)

-- the test where the first is nearer
nearer : {x y d e : ℤ} (r : Bool) → x ≡ d → y ≡ e → lt_z x y ≡ true → lt_z x y ≡ (lt_z d e || r)
nearer {x} {y} {d} {e} r f g t = t ∙ sym (go (lt_z d e) (sym (both f g) ∙ t))
  where
    -- the same test
    both : x ≡ d → y ≡ e → lt_z x y ≡ lt_z d e
    both f g = cc

    -- one passes
    go : (p : Bool) → p ≡ true → (p || r) ≡ true
    go true e = refl
    go false e = cc

-- where it is not
farther : {x y d e : ℤ} (q : Bool) → x ≡ d → y ≡ e → lt_z x y ≡ false → lt_z y x ≡ false →
    q ≡ (lt_z d e || (not (lt_z e d) && q))
farther {x} {y} {d} {e} q f g t u = go (lt_z d e) (lt_z e d) (sym (both f g) ∙ t) (sym (turned f g) ∙ u)
  where
    -- the same test
    both : x ≡ d → y ≡ e → lt_z x y ≡ lt_z d e
    both f g = cc

    -- the other way
    turned : x ≡ d → y ≡ e → lt_z y x ≡ lt_z e d
    turned f g = cc

    -- the second decides
    go : (p r : Bool) → p ≡ false → r ≡ false → q ≡ (p || (not r && q))
    go true r e f = cc
    go false true e f = cc
    go false false e f = refl

-- where it is farther
beyond : {x y d e : ℤ} (q : Bool) → x ≡ d → y ≡ e → lt_z x y ≡ false → lt_z y x ≡ true →
    false ≡ (lt_z d e || (not (lt_z e d) && q))
beyond {x} {y} {d} {e} q f g t u = go (lt_z d e) (lt_z e d) (sym (both f g) ∙ t) (sym (turned f g) ∙ u)
  where
    -- the same test
    both : x ≡ d → y ≡ e → lt_z x y ≡ lt_z d e
    both f g = cc

    -- the other way
    turned : x ≡ d → y ≡ e → lt_z y x ≡ lt_z e d
    turned f g = cc

    -- neither passes
    go : (p r : Bool) → p ≡ false → r ≡ true → false ≡ (p || (not r && q))
    go true r e f = cc
    go false true e f = refl
    go false false e f = cc

pub returns-then-near-far : goal.returns-then-near-far
returns-then-near-far c q e f =
    nearer (not (lt_z (distance q c.args.b) (distance q c.args.a)) && nat_lt c.args.a c.args.b)
    (again c.requires.near_bound e) (again c.requires.far_bound f) c.if-near-far.true

pub returns-then-not-far-near : goal.returns-then-not-far-near
returns-then-not-far-near c q e f =
    c.lt.ensures ∙ lt_is c.args.a c.args.b
    ∙ farther (nat_lt c.args.a c.args.b) (again c.requires.near_bound e) (again c.requires.far_bound f)
    c.if-near-far.false c.if-not-far-near.true

pub returns-else-not-far-near : goal.returns-else-not-far-near
returns-else-not-far-near c q e f =
    ap not c.if-not-far-near.false
    ∙ beyond (nat_lt c.args.a c.args.b) (again c.requires.near_bound e) (again c.requires.far_bound f)
    c.if-near-far.false c.if-not-far-near.false
