-- The member of a list of least ratio num / den, among those with den above zero.
use Rattle.std.specs.Prelude.{ℤ, pos, ◌+ℤ◌, ◌*ℤ◌, neg_ℤ, ◌≡◌, ◌≤ℤ◌, ◌<ℤ◌, List, [], ◌∷◌, ◌⊎◌}
use Rattle.std.proofs.Common.{arith, refl, inl, inr, subst}
use Rattle.std.proofs.lemmas.Int.{ints}
use Rattle.whole_ring.specs.Poly.{var, ◌⊗◌, ◌⊖◌, nothing, end, part}
use Rattle.whole_ring.specs.Signs.{below, at_zero, above}
use Rattle.whole_ring.proofs.Cited.{nonneg_from, pos_from, sign}
use Rattle.list_laws.specs.Lists.{IsIn}
use Rattle.list_laws.specs.Laws.{HasLeastRatio, LeastRatio}
use Rattle.list_laws.proofs.Zero.{clash_above}

-- of two numbers one is at most the other
pub compare : (a b : ℤ) → (a ≤ℤ b) ⊎ (b ≤ℤ a)
compare a b = elim (sign (a +ℤ neg_ℤ b)) [
  | below p ↦ inl (omega (arith, ints, p))
  | at_zero p ↦ inl (omega (arith, ints, p))
  | above p ↦ inr (omega (arith, ints, p))
]

-- n1 / d1 ≤ n2 / d2 ≤ n3 / d3
pub ratio_chain : (n1 d1 n2 d2 n3 d3 : ℤ) → pos 0 <ℤ d1 → pos 0 <ℤ d2 → pos 0 <ℤ d3 → (n1 *ℤ d2) ≤ℤ (n2 *ℤ d1) →
    (n2 *ℤ d3) ≤ℤ (n3 *ℤ d2) → (n1 *ℤ d3) ≤ℤ (n3 *ℤ d1)
ratio_chain n1 d1 n2 d2 n3 d3 p1 p2 p3 h k =
    let a : pos 0 ≤ℤ (n2 *ℤ d1 +ℤ neg_ℤ (n1 *ℤ d2)) = omega (arith, ints) in
    let b : pos 0 ≤ℤ (n3 *ℤ d2 +ℤ neg_ℤ (n2 *ℤ d3)) = omega (arith, ints) in
    let q1 : pos 0 ≤ℤ d1 = omega (arith, ints) in
    let q3 : pos 0 ≤ℤ d3 = omega (arith, ints) in
    let c : pos 0 ≤ℤ (n3 *ℤ d1 +ℤ neg_ℤ (n1 *ℤ d3)) =
    nonneg_from (var 3) (var 4 ⊗ var 1 ⊖ var 0 ⊗ var 5)
    (part (var 5) (var 2 ⊗ var 1 ⊖ var 0 ⊗ var 3) (end (var 1) (var 4 ⊗ var 3 ⊖ var 2 ⊗ var 5))) nothing
    (n1 ∷ d1 ∷ n2 ∷ d2 ∷ n3 ∷ d3 ∷ []) p2 (q3, a, (q1, b)) tt tt
    in
    omega (arith, ints)

-- n1 / d1 < n2 / d2 < n3 / d3
pub ratio_chain_less : (n1 d1 n2 d2 n3 d3 : ℤ) → pos 0 <ℤ d1 → pos 0 <ℤ d2 → pos 0 <ℤ d3 → (n1 *ℤ d2) <ℤ (n2 *ℤ d1) →
    (n2 *ℤ d3) <ℤ (n3 *ℤ d2) → (n1 *ℤ d3) <ℤ (n3 *ℤ d1)
ratio_chain_less n1 d1 n2 d2 n3 d3 p1 p2 p3 h k =
    let a : pos 0 ≤ℤ (n2 *ℤ d1 +ℤ neg_ℤ (n1 *ℤ d2)) = omega (arith, ints) in
    let b : pos 0 <ℤ (n3 *ℤ d2 +ℤ neg_ℤ (n2 *ℤ d3)) = omega (arith, ints) in
    let q3 : pos 0 ≤ℤ d3 = omega (arith, ints) in
    let c : pos 0 <ℤ (n3 *ℤ d1 +ℤ neg_ℤ (n1 *ℤ d3)) =
    pos_from (var 3) (var 4 ⊗ var 1 ⊖ var 0 ⊗ var 5)
    (part (var 5) (var 2 ⊗ var 1 ⊖ var 0 ⊗ var 3) (end (var 1) (var 4 ⊗ var 3 ⊖ var 2 ⊗ var 5))) nothing
    (n1 ∷ d1 ∷ n2 ∷ d2 ∷ n3 ∷ d3 ∷ []) p2 (q3, a, (p1, b)) tt tt
    in
    omega (arith, ints)

-- a number is at most itself
same_ratio : (a : ℤ) → a ≤ℤ a
same_ratio a = omega (arith, ints)

-- none with a positive den, or one of least ratio
abbrev Found : {X : Type 0} → (X → ℤ) → (X → ℤ) → List X → Type 0
Found {X} num den s = ((x : X) → IsIn x s → den x ≤ℤ pos 0) ⊎ ((best : X) × HasLeastRatio num den s best)

-- one more in front of the list
with_head : {X : Type 0} (num den : X → ℤ) (x : X) (xs : List X) → Found num den xs → Found num den (x ∷ xs)
with_head {X} num den x xs f = elim (sign (den x)) [
  | below q ↦ without (omega (arith, ints, q))
  | at_zero q ↦ without (omega (arith, ints, q))
  | above q ↦ elim f [
    | inl n ↦ inr (
      x,
      record {
        found = inl refl;
        positive = q;
        least = λ y m p. elim m [
          | inl e ↦ itself y e
          | inr r ↦ absurd (clash_above (den y) p (n y r))
        ];
      },
    )
    | inr l ↦ elim (compare (num l.0 *ℤ den x) (num x *ℤ den l.0)) [
      | inl k ↦ inr (
        l.0,
        record {
          found = inr l.1.found;
          positive = l.1.positive;
          least = λ y m p. elim m [
            | inl e ↦ at_head l.0 k y e
            | inr r ↦ l.1.least y r p
          ];
        },
      )
      | inr k ↦ inr (
        x,
        record {
          found = inl refl;
          positive = q;
          least = λ y m p. elim m [
            | inl e ↦ itself y e
            | inr r ↦ ratio_chain (num x) (den x) (num l.0) (den l.0) (num y) (den y) q l.1.positive p k
                (l.1.least y r p)
          ];
        },
      )
    ]
  ]
]
  where
    without : den x ≤ℤ pos 0 → Found num den (x ∷ xs)
    without z = elim f [
      | inl n ↦ inl (λ y m. elim m [ inl e ↦ subst (λ v. den v ≤ℤ pos 0) e z | inr r ↦ n y r ])
      | inr l ↦ inr (
        l.0,
        record {
          found = inr l.1.found;
          positive = l.1.positive;
          least = λ y m p. elim m [
            | inl e ↦ absurd (clash_above (den y) p (subst (λ v. den v ≤ℤ pos 0) e z))
            | inr r ↦ l.1.least y r p
          ];
        },
      )
    ]

    itself : (y : X) → x ≡ y → (num x *ℤ den y) ≤ℤ (num y *ℤ den x)
    itself y e = subst (λ v. (num x *ℤ den v) ≤ℤ (num v *ℤ den x)) e (same_ratio (num x *ℤ den x))

    at_head : (b : X) → (num b *ℤ den x) ≤ℤ (num x *ℤ den b) → (y : X) → x ≡ y → (num b *ℤ den y) ≤ℤ (num y *ℤ den b)
    at_head b k y e = subst (λ v. (num b *ℤ den v) ≤ℤ (num v *ℤ den b)) e k

-- a member of least ratio, by going through the list
pub find_least : {X : Type 0} (num den : X → ℤ) (s : List X) → Found num den s
find_least num den [] = inl (λ x m. absurd m)
find_least num den (x ∷ xs) = with_head num den x xs (find_least num den xs)

-- the law of specs/Lists
pub least_ratio : (X : Type 0) → LeastRatio X
least_ratio X num den s = find_least num den s
