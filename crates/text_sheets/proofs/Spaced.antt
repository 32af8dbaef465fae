-- Lines that are written from their ends.
use Rattle.std.proofs.Common.{◌≡◌, ◌++◌, List, ℕ, ◌<◌, ◌≤◌, ◌^◌, length, arith, ap, ◌∙◌, append_assoc}
use Rattle.std.specs.Prelude.{decimal}
use Rattle.std.proofs.lemmas.Fmt.{length-decimal-le}

-- a number of 64 bits has at most twenty digits
pub at_most_twenty : (n : ℕ) → n < 2 ^ 64 → length (decimal n) ≤ 20
at_most_twenty n l = length-decimal-le 20 n (omega arith) (omega (arith, l)) l

-- what stands behind three parts stands behind the last of them
pub behind_three : (p q r end : List ℕ) → (p ++ (q ++ r)) ++ end ≡ p ++ (q ++ (r ++ end))
behind_three p q r end = append_assoc p (q ++ r) end ∙ ap (λ (v : List ℕ). p ++ v) (append_assoc q r end)

-- and so behind four
pub behind_four : (p q r s end : List ℕ) → (p ++ (q ++ (r ++ s))) ++ end ≡ p ++ (q ++ (r ++ (s ++ end)))
behind_four p q r s end =
    append_assoc p (q ++ (r ++ s)) end ∙ ap (λ (v : List ℕ). p ++ v) (behind_three q r s end)
