-- Answers and refusals are told apart, and are of one thing.
use Rattle.std.proofs.Common.{◌≡◌, Result, Ok, Err}

-- an answer is not a refusal
pub ok_err : {A E : Type 0} (a : A) (e : E) → ◌≡◌ {A = Result A E} (Ok a) (Err e) → ⊥
ok_err a e h = cc

-- an answer has one value
pub ok_one : {A E : Type 0} (a b : A) → ◌≡◌ {A = Result A E} (Ok a) (Ok b) → a ≡ b
ok_one a b h = cc

-- and a refusal one reason
pub err_one : {A E : Type 0} (a b : E) → ◌≡◌ {A = Result A E} (Err a) (Err b) → a ≡ b
err_one a b h = cc
