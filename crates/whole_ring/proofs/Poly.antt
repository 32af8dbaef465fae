-- The polynomial that an expression computes to has the value of the expression: one lemma for each operation on
-- polynomials.
use Rattle.std.specs.Prelude.{ℤ, pos, negsuc, ◌+ℤ◌, ◌*ℤ◌, neg_ℤ, ◌≡◌, ℕ, zero, suc, List, Bool, true, false, T, eqb}
use Rattle.std.specs.Prelude.{ltb}
use Rattle.std.proofs.Common.{arith, refl, ap, sym, ◌∙◌, ap₂, eqb→eq}
use Rattle.std.proofs.lemmas.Int.{ints}
use Rattle.std.proofs.Math.IntN.{*ℤ-zero, zero-*ℤ, +ℤ_idl, *ℤ_comm, +ℤ_assoc, +ℤ_invr}
use Rattle.whole_ring.proofs.Whole.{mul_add, add_mul, mul_assoc, mul_neg}
use Rattle.whole_ring.specs.Poly.{Expr, var, lit, ◌⊕◌, ◌⊗◌, minus, value, Sum, num, node, sum_value, pick, made}
use Rattle.whole_ring.specs.Poly.{add_num, add_node, add_sum, neg_sum, times_num, scale, times_var, mul_sum, sum_of}
use Rattle.whole_ring.specs.Poly.{is_nothing, Given, nothing, given, combined, Hold, entry_at}

-- ---- small laws, one for each step below

-- a number added to p, where p leads a node
swap_last : (p h q c : ℤ) → (c +ℤ p) +ℤ h *ℤ q ≡ (p +ℤ h *ℤ q) +ℤ c
swap_last p h q c = omega (arith, ints)

-- two nodes of one variable are added part by part
sums : (p r h q s : ℤ) → (p +ℤ r) +ℤ h *ℤ (q +ℤ s) ≡ (p +ℤ h *ℤ q) +ℤ (r +ℤ h *ℤ s)
sums p r h q s = omega (arith, ints, mul_add h q s)

-- a node is negated part by part
negated : (p h q : ℤ) → neg_ℤ p +ℤ h *ℤ neg_ℤ q ≡ neg_ℤ (p +ℤ h *ℤ q)
negated p h q = omega (arith, ints, mul_neg h q)

-- a node is multiplied part by part
outside : (c p h q : ℤ) → c *ℤ p +ℤ h *ℤ (c *ℤ q) ≡ c *ℤ (p +ℤ h *ℤ q)
outside c p h q =
    let e : h *ℤ (c *ℤ q) ≡ c *ℤ (h *ℤ q) = sym (mul_assoc h c q) ∙ ap (λ n. n *ℤ q) (*ℤ_comm h c) ∙ mul_assoc c h q in
    ap (λ n. c *ℤ p +ℤ n) e ∙ sym (mul_add c p (h *ℤ q))

-- a node whose second part is 0 is its first part
no_rest : (p h : ℤ) → p +ℤ h *ℤ pos 0 ≡ p
no_rest p h = omega (arith, ints, *ℤ-zero h)

-- a variable alone, as a node
var_head : (h : ℤ) → pos 0 +ℤ h *ℤ pos 1 ≡ h
var_head h = omega (arith, ints)

-- ---- the operations

-- what is picked has the value z, if each of the two has
pick_is : (b : Bool) (f g : Unit {0} → Sum) (xs : List ℤ) (z : ℤ) → (T b → sum_value (f tt) xs ≡ z) →
    (sum_value (g tt) xs ≡ z) → sum_value (pick b f g) xs ≡ z
pick_is true f g xs z h k = h tt
pick_is false f g xs z h k = k

-- `made` means what `node` means, q being 0 or not
pub made_is : (i : ℕ) (p q : Sum) (xs : List ℤ) → sum_value (made i p q) xs ≡ sum_value p xs
    +ℤ entry_at xs i *ℤ sum_value q xs
made_is i p (num (pos zero)) xs = sym (no_rest (sum_value p xs) (entry_at xs i))
made_is i p (num (pos (suc n))) xs = refl
made_is i p (num (negsuc n)) xs = refl
made_is i p (node j r s) xs = refl

-- a number is added
add_num_is : (c : ℤ) (p : Sum) (xs : List ℤ) → sum_value (add_num c p) xs ≡ c +ℤ sum_value p xs
add_num_is c (num d) xs = refl
add_num_is c (node i p q) xs =
    ap (λ n. n +ℤ entry_at xs i *ℤ sum_value q xs) (add_num_is c p xs)
    ∙ +ℤ_assoc c (sum_value p xs) (entry_at xs i *ℤ sum_value q xs)

-- what is added to the first part of a node is added to the node
aside : (p r x y : ℤ) → (p +ℤ r) +ℤ x ≡ (p +ℤ x) +ℤ r
aside p r x y = omega (arith, ints)

-- a node added to the first part of another
last : (p r x : ℤ) → (p +ℤ r) +ℤ x ≡ p +ℤ (r +ℤ x)
last p r x = omega (arith, ints)

-- a polynomial is added to a node, where f and g add to its two parts
add_node_is : (i : ℕ) (p q : Sum) (f g : Sum → Sum) (xs : List ℤ) →
    ((t : Sum) → sum_value (f t) xs ≡ sum_value p xs +ℤ sum_value t xs) →
    ((t : Sum) → sum_value (g t) xs ≡ sum_value q xs +ℤ sum_value t xs) → (t : Sum) →
    sum_value (add_node i p q f g t) xs ≡ (sum_value p xs +ℤ entry_at xs i *ℤ sum_value q xs) +ℤ sum_value t xs
add_node_is i p q f g xs hf hg (num c) =
    ap (λ n. n +ℤ entry_at xs i *ℤ sum_value q xs) (add_num_is c p xs)
    ∙ swap_last (sum_value p xs) (entry_at xs i) (sum_value q xs) c
add_node_is i p q f g xs hf hg (node j r s) =
    let P = sum_value p xs in
    let Q = sum_value q xs in
    let R = sum_value r xs in
    let S = sum_value s xs in
    pick_is (eqb i j) (λ u. made i (f r) (g s)) (λ u. pick (ltb i j) (λ v. node i (f (node j r s)) q)
    (λ v. node j (add_node i p q f g r) s)) xs ((P +ℤ entry_at xs i *ℤ Q) +ℤ (R +ℤ entry_at xs j *ℤ S))
    (λ t.
    made_is i (f r) (g s) xs
    ∙ ap₂ (λ m n. m +ℤ entry_at xs i *ℤ n) (hf r) (hg s)
    ∙ sums P R (entry_at xs i) Q S
    ∙ ap (λ n. (P +ℤ entry_at xs i *ℤ Q) +ℤ (R +ℤ entry_at xs n *ℤ S)) (eqb→eq i j t))
    (pick_is (ltb i j) (λ v. node i (f (node j r s)) q) (λ v. node j (add_node i p q f g r) s) xs
    ((P +ℤ entry_at xs i *ℤ Q) +ℤ (R +ℤ entry_at xs j *ℤ S))
    (λ t. ap (λ n. n +ℤ entry_at xs i *ℤ Q) (hf (node j r s))
    ∙ aside P (R +ℤ entry_at xs j *ℤ S) (entry_at xs i *ℤ Q) P)
    (ap (λ n. n +ℤ entry_at xs j *ℤ S) (add_node_is i p q f g xs hf hg r)
    ∙ last (P +ℤ entry_at xs i *ℤ Q) R (entry_at xs j *ℤ S)))

-- polynomials are added
pub add_sum_is : (p t : Sum) (xs : List ℤ) → sum_value (add_sum p t) xs ≡ sum_value p xs +ℤ sum_value t xs
add_sum_is (num c) t xs = add_num_is c t xs
add_sum_is (node i p q) t xs =
    add_node_is i p q (add_sum p) (add_sum q) xs (λ r. add_sum_is p r xs) (λ r. add_sum_is q r xs) t

-- a polynomial is negated
pub neg_sum_is : (p : Sum) (xs : List ℤ) → sum_value (neg_sum p) xs ≡ neg_ℤ (sum_value p xs)
neg_sum_is (num c) xs = refl
neg_sum_is (node i p q) xs =
    ap₂ (λ m n. m +ℤ entry_at xs i *ℤ n) (neg_sum_is p xs) (neg_sum_is q xs)
    ∙ negated (sum_value p xs) (entry_at xs i) (sum_value q xs)

-- a polynomial is multiplied by a number
times_num_is : (c : ℤ) (p : Sum) (xs : List ℤ) → sum_value (times_num c p) xs ≡ c *ℤ sum_value p xs
times_num_is c (num d) xs = refl
times_num_is c (node i p q) xs =
    ap₂ (λ m n. m +ℤ entry_at xs i *ℤ n) (times_num_is c p xs) (times_num_is c q xs)
    ∙ outside c (sum_value p xs) (entry_at xs i) (sum_value q xs)

-- the same, where the number may be 0
scale_is : (c : ℤ) (p : Sum) (xs : List ℤ) → sum_value (scale c p) xs ≡ c *ℤ sum_value p xs
scale_is (pos zero) p xs = sym (zero-*ℤ (sum_value p xs))
scale_is (pos (suc n)) p xs = times_num_is (pos (suc n)) p xs
scale_is (negsuc n) p xs = times_num_is (negsuc n) p xs

-- a polynomial is multiplied by a variable
pub times_var_is : (i : ℕ) (p : Sum) (xs : List ℤ) → sum_value (times_var i p) xs ≡ entry_at xs i *ℤ sum_value p xs
times_var_is i (num c) xs = made_is i (num (pos 0)) (num c) xs ∙ +ℤ_idl (entry_at xs i *ℤ c)
times_var_is i (node j r s) xs =
    pick_is (ltb j i) (λ u. node j (times_var i r) (times_var i s)) (λ u. node i (num (pos 0)) (node j r s)) xs
    (entry_at xs i *ℤ (sum_value r xs +ℤ entry_at xs j *ℤ sum_value s xs))
    (λ t. ap₂ (λ m n. m +ℤ entry_at xs j *ℤ n) (times_var_is i r xs) (times_var_is i s xs)
    ∙ outside (entry_at xs i) (sum_value r xs) (entry_at xs j) (sum_value s xs))
    (+ℤ_idl (entry_at xs i *ℤ (sum_value r xs +ℤ entry_at xs j *ℤ sum_value s xs)))

-- a node times a number
put_together : (p i q t : ℤ) → p *ℤ t +ℤ i *ℤ (q *ℤ t) ≡ (p +ℤ i *ℤ q) *ℤ t
put_together p i q t = ap (λ n. p *ℤ t +ℤ n) (sym (mul_assoc i q t)) ∙ sym (add_mul p (i *ℤ q) t)

-- polynomials are multiplied
pub mul_sum_is : (p t : Sum) (xs : List ℤ) → sum_value (mul_sum p t) xs ≡ sum_value p xs *ℤ sum_value t xs
mul_sum_is (num c) t xs = scale_is c t xs
mul_sum_is (node i p q) t xs =
    add_sum_is (mul_sum p t) (times_var i (mul_sum q t)) xs
    ∙ ap₂ (λ m n. m +ℤ n) (mul_sum_is p t xs) (times_var_is i (mul_sum q t) xs
    ∙ ap (λ n. entry_at xs i *ℤ n) (mul_sum_is q t xs))
    ∙ put_together (sum_value p xs) (entry_at xs i) (sum_value q xs) (sum_value t xs)

-- the polynomial of an expression has its value
pub sum_of_is : (e : Expr) (xs : List ℤ) → sum_value (sum_of e) xs ≡ value e xs
sum_of_is (var n) xs = var_head (entry_at xs n)
sum_of_is (lit c) xs = refl
sum_of_is (a ⊕ b) xs = add_sum_is (sum_of a) (sum_of b) xs ∙ ap₂ (λ m n. m +ℤ n) (sum_of_is a xs) (sum_of_is b xs)
sum_of_is (a ⊗ b) xs = mul_sum_is (sum_of a) (sum_of b) xs ∙ ap₂ (λ m n. m *ℤ n) (sum_of_is a xs) (sum_of_is b xs)
sum_of_is (minus a) xs = neg_sum_is (sum_of a) xs ∙ ap neg_ℤ (sum_of_is a xs)

-- a polynomial that is written as 0 is 0
pub is_nothing_is : (p : Sum) (xs : List ℤ) → T (is_nothing p) → sum_value p xs ≡ pos 0
is_nothing_is (num (pos zero)) xs t = refl
is_nothing_is (num (pos (suc n))) xs t = absurd t
is_nothing_is (num (negsuc n)) xs t = absurd t
is_nothing_is (node i p q) xs t = absurd t

-- a combination of equations that hold is 0
pub combined_is : (g : Given) (xs : List ℤ) → Hold g xs → value (combined g) xs ≡ pos 0
combined_is nothing xs h = refl
combined_is (given k l r g) xs h =
    ap₂ (λ m n. value k xs *ℤ (m +ℤ neg_ℤ (value r xs)) +ℤ n) h.0 (combined_is g xs h.1)
    ∙ spent (value k xs) (value r xs)
  where
    spent : (k r : ℤ) → k *ℤ (r +ℤ neg_ℤ r) +ℤ pos 0 ≡ pos 0
    spent k r = ap (λ n. k *ℤ n +ℤ pos 0) (+ℤ_invr r) ∙ ap (λ n. n +ℤ pos 0) (*ℤ-zero k)
