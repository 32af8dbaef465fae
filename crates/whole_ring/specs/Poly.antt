-- Expressions over the whole numbers, their value at a list of numbers, and the polynomial that each computes to.
-- Every definition here is an `abbrev`, so that a proof computes with it: the value of a written expression is the term
-- that it stands for, and whether two expressions have the same polynomial is a test that computes.
use Rattle.std.specs.Prelude.{ℤ, pos, negsuc, ◌+ℤ◌, ◌*ℤ◌, neg_ℤ, ◌≤ℤ◌, ◌<ℤ◌, ℕ, zero, suc, List, [], ◌∷◌, Bool, true}
use Rattle.std.specs.Prelude.{false, eqb, ltb, ◌≡◌}

-- ---- expressions

-- what is written: a variable by its place in the list, a number, a sum, a product, a negation
infixl 6 ◌⊕◌ ◌⊖◌
infixl 7 ◌⊗◌
pub data Expr : Type 0 where
  var : ℕ → Expr
  lit : ℤ → Expr
  ◌⊕◌ : Expr → Expr → Expr
  ◌⊗◌ : Expr → Expr → Expr
  minus : Expr → Expr

-- a difference, which is the sum with a negation, as for whole numbers
abbrev pub ◌⊖◌ : Expr → Expr → Expr
a ⊖ b = a ⊕ minus b

-- the first number of a list, or 0
abbrev pub head : List ℤ → ℤ
head [] = pos 0
head (x ∷ xs) = x

-- what follows the first number
abbrev pub tail : List ℤ → List ℤ
tail [] = []
tail (x ∷ xs) = xs

-- the number at a place of a list, and 0 past its end
abbrev pub entry_at : List ℤ → ℕ → ℤ
entry_at xs zero = head xs
entry_at xs (suc n) = entry_at (tail xs) n

-- what an expression stands for, where the variables have the values of a list
abbrev pub value : Expr → List ℤ → ℤ
value (var n) xs = entry_at xs n
value (lit c) xs = c
value (a ⊕ b) xs = value a xs +ℤ value b xs
value (a ⊗ b) xs = value a xs *ℤ value b xs
value (minus a) xs = neg_ℤ (value a xs)

-- ---- the polynomial of an expression

-- a polynomial in nested form: a number, or `node i p q`, which is p plus the variable i times q.
-- In those that are made here, the variables of p come after i, and those of q do not come before i
pub data Sum : Type 0 where
  num : ℤ → Sum
  node : ℕ → Sum → Sum → Sum

-- the value of a polynomial
abbrev pub sum_value : Sum → List ℤ → ℤ
sum_value (num c) xs = c
sum_value (node i p q) xs = sum_value p xs +ℤ entry_at xs i *ℤ sum_value q xs

-- the first where the test is true, else the second; only the one that is picked is computed
abbrev pub pick : Bool → (Unit {0} → Sum) → (Unit {0} → Sum) → Sum
pick true f g = f tt
pick false f g = g tt

-- p plus the variable i times q, where q may be 0, and then it is p
abbrev pub made : ℕ → Sum → Sum → Sum
made i p (num (pos zero)) = p
made i p (num (pos (suc n))) = node i p (num (pos (suc n)))
made i p (num (negsuc n)) = node i p (num (negsuc n))
made i p (node j r s) = node i p (node j r s)

-- a number plus a polynomial
abbrev pub add_num : ℤ → Sum → Sum
add_num c (num d) = num (c +ℤ d)
add_num c (node i p q) = node i (add_num c p) q

-- node i p q plus a polynomial, where f adds to p and g adds to q
abbrev pub add_node : ℕ → Sum → Sum → (Sum → Sum) → (Sum → Sum) → Sum → Sum
add_node i p q f g (num c) = node i (add_num c p) q
add_node i p q f g (node j r s) =
    pick (eqb i j) (λ u. made i (f r) (g s)) (λ u.
    pick (ltb i j) (λ v. node i (f (node j r s)) q) (λ v. node j (add_node i p q f g r) s))

-- the sum of two polynomials
abbrev pub add_sum : Sum → Sum → Sum
add_sum (num c) t = add_num c t
add_sum (node i p q) t = add_node i p q (add_sum p) (add_sum q) t

-- a polynomial negated
abbrev pub neg_sum : Sum → Sum
neg_sum (num c) = num (neg_ℤ c)
neg_sum (node i p q) = node i (neg_sum p) (neg_sum q)

-- a number that is not 0 times a polynomial
abbrev pub times_num : ℤ → Sum → Sum
times_num c (num d) = num (c *ℤ d)
times_num c (node i p q) = node i (times_num c p) (times_num c q)

-- any number times a polynomial
abbrev pub scale : ℤ → Sum → Sum
scale (pos zero) t = num (pos zero)
scale (pos (suc n)) t = times_num (pos (suc n)) t
scale (negsuc n) t = times_num (negsuc n) t

-- the variable i times a polynomial
abbrev pub times_var : ℕ → Sum → Sum
times_var i (num c) = made i (num (pos 0)) (num c)
times_var i (node j r s) =
    pick (ltb j i) (λ u. node j (times_var i r) (times_var i s)) (λ u. node i (num (pos 0)) (node j r s))

-- the product of two polynomials
abbrev pub mul_sum : Sum → Sum → Sum
mul_sum (num c) t = scale c t
mul_sum (node i p q) t = add_sum (mul_sum p t) (times_var i (mul_sum q t))

-- the polynomial of an expression
abbrev pub sum_of : Expr → Sum
sum_of (var n) = node n (num (pos 0)) (num (pos 1))
sum_of (lit c) = num c
sum_of (a ⊕ b) = add_sum (sum_of a) (sum_of b)
sum_of (a ⊗ b) = mul_sum (sum_of a) (sum_of b)
sum_of (minus a) = neg_sum (sum_of a)

-- the polynomial is 0 as it is written
abbrev pub is_nothing : Sum → Bool
is_nothing (num (pos zero)) = true
is_nothing (num (pos (suc n))) = false
is_nothing (num (negsuc n)) = false
is_nothing (node i p q) = false

-- ---- what a law may start from

-- equations that are given, `given k l r rest` being the equation l ≡ r with the factor k by which it is used
pub data Given : Type 0 where
  nothing : Given
  given : Expr → Expr → Expr → Given → Given

-- the differences of the equations' sides, each times its factor, added up
abbrev pub combined : Given → Expr
combined nothing = lit (pos 0)
combined (given k l r g) = k ⊗ (l ⊖ r) ⊕ combined g

-- every given equation holds
abbrev pub Hold : Given → List ℤ → Type 0
Hold nothing xs = Unit {0}
Hold (given k l r g) xs = (value l xs ≡ value r xs) × Hold g xs

-- a sum of products of two, `part k e rest` being k times e plus the rest
pub data Parts : Type 0 where
  end : Expr → Expr → Parts
  part : Expr → Expr → Parts → Parts

-- the sum of products as one expression
abbrev pub total : Parts → Expr
total (end k e) = k ⊗ e
total (part k e r) = k ⊗ e ⊕ total r

-- no factor is negative
abbrev pub NotNegative : Parts → List ℤ → Type 0
NotNegative (end k e) xs = (pos 0 ≤ℤ value k xs) × (pos 0 ≤ℤ value e xs)
NotNegative (part k e r) xs = (pos 0 ≤ℤ value k xs) × (pos 0 ≤ℤ value e xs) × NotNegative r xs

-- no factor is negative, and those of the last product are positive
abbrev pub Positive : Parts → List ℤ → Type 0
Positive (end k e) xs = (pos 0 <ℤ value k xs) × (pos 0 <ℤ value e xs)
Positive (part k e r) xs = (pos 0 ≤ℤ value k xs) × (pos 0 ≤ℤ value e xs) × Positive r xs
