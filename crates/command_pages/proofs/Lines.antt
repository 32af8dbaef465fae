-- A list that is told place by place.
use Rattle.std.proofs.Common.{◌≡◌, refl, ap, ap₂, ◌∙◌, ℕ, suc, ◌+◌, ◌<◌, List, [], ◌∷◌, length, get_or, arith}
use Rattle.std.specs.Prelude.{map}
use Rattle.std.specs.List.{range_with_len}

-- a list whose element at each place is f of that place, counted from a start
pub told_by_place : {X : Type 0} (f : ℕ → X) (d : X) (start : ℕ) (xs : List X) →
    ((k : ℕ) → k < length xs → get_or xs k d ≡ f (start + k)) → xs ≡ map f (range_with_len start (length xs))
told_by_place f d start [] h = refl
told_by_place {X} f d start (x ∷ xs) h =
    let e : x ≡ f start = h 0 (omega arith) ∙ ap f (omega arith) in
    let r : xs ≡ map f (range_with_len (start + 1) (length xs)) =
    told_by_place f d (start + 1) xs (λ k l. h (suc k) (omega (arith, l)) ∙ ap f (omega arith)) in
    ap₂ (λ (a : X) (b : List X). a ∷ b) e r
