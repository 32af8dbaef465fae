-- Lists of equal elements, as they are filled.
use Rattle.std.specs.Prelude.{◌≡◌, ℕ, zero, suc, ◌+◌, ◌≤◌, List, [], ◌∷◌, ◌++◌, replicate}
use Rattle.std.proofs.Common.{refl, sym, ◌∙◌, ap, arith, add-one}

-- so many equal elements, and one behind them
one_behind : {A : Type 0} (x : A) (n : ℕ) → replicate n x ++ x ∷ [] ≡ replicate (suc n) x
one_behind x zero = refl
one_behind {A} x (suc n) = ap (λ (l : List A). x ∷ l) (one_behind x n)

-- are one more of them
pub one_more : {A : Type 0} (x : A) (n : ℕ) → replicate n x ++ x ∷ [] ≡ replicate (n + 1) x
one_more x n = one_behind x n ∙ ap (λ (k : ℕ). replicate k x) (sym (add-one n))

-- two numbers neither of which is greater are one
pub same_end : (a b : ℕ) → a ≤ b → b ≤ a → a ≡ b
same_end a b l m = omega arith
