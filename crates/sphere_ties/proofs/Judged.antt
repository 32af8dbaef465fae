-- The five points of a question of conflict are distinct.
use Rattle.std.proofs.Common.{◌≡◌, ◌≢◌, ◌<◌, ℕ, [], ◌∷◌, pos, sym, ◌∙◌, ap, arith, false}
use Rattle.std.proofs.lemmas.Bool.Decides.{nat_tests}
use Rattle.point_order.specs.Orientation.{orientation, is_flat}
use Rattle.point_order.specs.Sets.{AreFive, is_among}
use Rattle.point_order.proofs.Cited.{last_first, last_second, last_third, not_zero}

-- a point off the plane of three is none of them
off_plane : (a b c m k : ℕ) → is_flat a b c m ≡ false → orientation a b c k ≡ pos 0 → k ≢ m
off_plane a b c m k f z e =
    not_zero (orientation a b c m) f (ap (λ v. orientation a b c v) (sym e) ∙ z)

-- an Open cell, its mate off the plane and a point that is none of the four
pub five_judged : (a b c m p : ℕ) → a < b → b < c → is_flat a b c m ≡ false → is_among p (a ∷ b ∷ c ∷ m ∷ []) ≡ false →
    AreFive a b c m p
five_judged a b c m p h k f n =
    let am : a ≢ m = off_plane a b c m a f (last_first a b c) in
    let bm : b ≢ m = off_plane a b c m b f (last_second a b c) in
    let cm : c ≢ m = off_plane a b c m c f (last_third a b c) in
    grind (arith, nat_tests)
