-- What holds of each element and each later one, and lists with numbered elements.
use Rattle.std.specs.List.{enumerate_from, filter, range_with_len}
use Rattle.std.specs.Prelude.{AllPairs, Bool, List, [], cond, false, length, map, suc, take, true, zero, ℕ, ◌++◌, ◌+◌}
use Rattle.std.specs.Prelude.{◌<◌, ◌∷◌, ◌≡◌, ◌≤◌, ◌⊎◌}
use Rattle.std.proofs.Common.{ap, arith, get_or, inl, inr, refl, subst, sym, ◌∙◌}
use Rattle.list_laws.specs.Lists.{IsIn}
use Rattle.list_laws.proofs.Filters.{in_filtered}
use Rattle.list_laws.proofs.Members.{at_in, contains_in, from_append, in_left, in_right, mapped_from, mapped_true}

-- R holds of each element and each later one
abbrev pub EachLater : {X : Type 0} → (X → X → Type 0) → List X → Type 0
EachLater R [] = Unit {0}
EachLater {X} R (x ∷ xs) = ((y : X) → IsIn y xs → R x y) × EachLater R xs

-- the same by places, as std says it
pub later_pairs : {X : Type 0} (R : X → X → Type 0) (xs : List X) → EachLater R xs → AllPairs R xs
later_pairs R [] h i j d l m = absurd (omega arith)
later_pairs R (x ∷ xs) h zero zero d l m = absurd (omega arith)
later_pairs R (x ∷ xs) h zero (suc j) d l m = h.0 (get_or xs j d) (at_in xs j d (omega arith))
later_pairs R (x ∷ xs) h (suc i) zero d l m = absurd (omega arith)
later_pairs R (x ∷ xs) h (suc i) (suc j) d l m = later_pairs R xs h.1 i j d (omega arith) (omega arith)

-- and back
pub pairs_later : {X : Type 0} (R : X → X → Type 0) (xs : List X) → AllPairs R xs → EachLater R xs
pairs_later R [] h = tt
pairs_later {X} R (x ∷ xs) h = (
  λ y i. let c = contains_in xs y i in subst (R x) c.2 (h 0 (suc c.0) y (omega arith) (omega (arith, c.1))),
  pairs_later R xs (λ i j d l m. h (suc i) (suc j) d (omega arith) (omega arith)),
)

-- of two lists joined: within each, and across
pub later_append : {X : Type 0} (R : X → X → Type 0) (xs ys : List X) → EachLater R xs → EachLater R ys →
    ((x y : X) → IsIn x xs → IsIn y ys → R x y) → EachLater R (xs ++ ys)
later_append R [] ys h k f = k
later_append R (x ∷ xs) ys h k f = (
  λ y i. elim (from_append y xs ys i) [
    | inl j ↦ h.0 y j
    | inr j ↦ f x y (inl refl) j
  ],
  later_append R xs ys h.1 k (λ z y i j. f z y (inr i) j),
)

-- what that says across the two
pub later_across : {X : Type 0} (R : X → X → Type 0) (xs ys : List X) → EachLater R (xs ++ ys) → (x y : X) → IsIn x xs →
    IsIn y ys → R x y
later_across R [] ys h x y i j = absurd i
later_across {X} R (z ∷ xs) ys h x y (inl e) j = subst (λ (w : X). R w y) e (h.0 y (in_right y xs ys j))
later_across R (z ∷ xs) ys h x y (inr i) j = later_across R xs ys h.1 x y i j

-- within the first
pub later_left : {X : Type 0} (R : X → X → Type 0) (xs ys : List X) → EachLater R (xs ++ ys) → EachLater R xs
later_left R [] ys h = tt
later_left R (x ∷ xs) ys h = (λ y i. h.0 y (in_left y xs ys i), later_left R xs ys h.1)

-- and within the second
pub later_right : {X : Type 0} (R : X → X → Type 0) (xs ys : List X) → EachLater R (xs ++ ys) → EachLater R ys
later_right R [] ys h = h
later_right R (x ∷ xs) ys h = later_right R xs ys h.1

-- of images
pub later_map : {X Y : Type 0} (f : X → Y) (R : Y → Y → Type 0) (xs : List X) → EachLater (λ x y. R (f x) (f y)) xs →
    EachLater R (map f xs)
later_map f R [] h = tt
later_map {X} {Y} f R (x ∷ xs) h =
    (λ y i. let r = mapped_from f y xs i in subst (R (f x)) r.2 (h.0 r.0 r.1), later_map f R xs h.1)

-- and back
pub later_unmap : {X Y : Type 0} (f : X → Y) (R : Y → Y → Type 0) (xs : List X) → EachLater R (map f xs) →
    EachLater (λ x y. R (f x) (f y)) xs
later_unmap f R [] h = tt
later_unmap f R (x ∷ xs) h = (λ y i. h.0 (f y) (mapped_true f y xs i), later_unmap f R xs h.1)

-- a relation that says less
pub later_weaken : {X : Type 0} (R S : X → X → Type 0) (xs : List X) →
    ((x y : X) → IsIn x xs → IsIn y xs → R x y → S x y) → EachLater R xs → EachLater S xs
later_weaken R S [] f h = tt
later_weaken R S (x ∷ xs) f h =
    (λ y i. f x y (inl refl) (inr i) (h.0 y i), later_weaken R S xs (λ y z i j. f y z (inr i) (inr j)) h.1)

-- some of the elements
pub later_filter : {X : Type 0} (R : X → X → Type 0) (t : X → Bool) (xs : List X) → EachLater R xs →
    EachLater R (filter t xs)
later_filter R t [] h = tt
later_filter {X} R t (x ∷ xs) h = by (t x) (later_filter R t xs h.1)
  where
    by : (b : Bool) → EachLater R (filter t xs) → EachLater R (cond b (x ∷ filter t xs) (filter t xs))
    by true r = (λ y i. h.0 y (in_filtered t xs y i), r)
    by false r = r

-- the first of two numbered elements has the lower number
abbrev pub IsLower : {X : Type 0} → ℕ × X → ℕ × X → Type 0
IsLower x y = x.0 < y.0

-- lists of the same pairs, the numbers rising, are one list
pub same_pairs : {X : Type 0} (xs ys : List (ℕ × X)) → EachLater IsLower xs → EachLater IsLower ys →
    ((x : ℕ × X) → IsIn x xs → IsIn x ys) → ((x : ℕ × X) → IsIn x ys → IsIn x xs) → xs ≡ ys
same_pairs [] [] h k f g = refl
same_pairs [] (y ∷ ys) h k f g = absurd (g y (inl refl))
same_pairs (x ∷ xs) [] h k f g = absurd (f x (inl refl))
same_pairs {X} (x ∷ xs) (y ∷ ys) h k f g =
    let e : x ≡ y =
    elim (f x (inl refl)) [
      | inl a ↦ sym a
      | inr i ↦ elim (g y (inl refl)) [
        | inl b ↦ b
        | inr j ↦ let p : y.0 < x.0 = k.0 x i in let q : x.0 < y.0 = h.0 y j in absurd (omega (arith, p, q))
      ]
    ] in
    let n : x.0 ≡ y.0 = ap (λ (z : ℕ × X). z.0) e in
    let t : xs ≡ ys =
    same_pairs xs ys h.1 k.1
    (λ p i. elim (f p (inr i)) [
      | inl a ↦ let l : x.0 < p.0 =
          h.0 p i in let m : y.0 ≡ p.0 = ap (λ (z : ℕ × X). z.0) a in absurd (omega (arith, l, m, n))
      | inr j ↦ j
    ])
    (λ p i. elim (g p (inr i)) [
      | inl a ↦ let l : y.0 < p.0 =
          k.0 p i in let m : x.0 ≡ p.0 = ap (λ (z : ℕ × X). z.0) a in absurd (omega (arith, l, m, n))
      | inr j ↦ j
    ]) in
    ap (λ (z : ℕ × X). z ∷ xs) e ∙ ap (λ (l : List (ℕ × X)). y ∷ l) t

-- elements numbered from n on: no number is below n
pub numbered_from : {X : Type 0} (n : ℕ) (xs : List X) (line : ℕ × X) → IsIn line (enumerate_from n xs) → n ≤ line.0
numbered_from n [] line i = absurd i
numbered_from {X} n (x ∷ xs) line (inl e) = let f : n ≡ line.0 = ap (λ (p : ℕ × X). p.0) e in omega (arith, f)
numbered_from n (x ∷ xs) line (inr i) = omega (arith, numbered_from (n + 1) xs line i)

-- the numbers rise
pub numbered_lower : {X : Type 0} (n : ℕ) (xs : List X) → EachLater IsLower (enumerate_from n xs)
numbered_lower n [] = tt
numbered_lower n (x ∷ xs) = (λ y i. omega (arith, numbered_from (n + 1) xs y i), numbered_lower (n + 1) xs)

-- one place has one element
pub same_place : {X : Type 0} (n : ℕ) (xs : List X) (x y : ℕ × X) → IsIn x (enumerate_from n xs) →
    IsIn y (enumerate_from n xs) → x.0 ≡ y.0 → x ≡ y
same_place n [] x y i j e = absurd i
same_place n (z ∷ xs) x y (inl a) (inl b) e = sym a ∙ b
same_place {X} n (z ∷ xs) x y (inl a) (inr j) e =
    let l =
    numbered_from (n + 1) xs y j in let m : n ≡ x.0 = ap (λ (w : ℕ × X). w.0) a in absurd (omega (arith, l, m, e))
same_place {X} n (z ∷ xs) x y (inr i) (inl b) e =
    let l =
    numbered_from (n + 1) xs x i in let m : n ≡ y.0 = ap (λ (w : ℕ × X). w.0) b in absurd (omega (arith, l, m, e))
same_place n (z ∷ xs) x y (inr i) (inr j) e = same_place (n + 1) xs x y i j e

-- the elements are those of the list
pub numbered_map : {X : Type 0} (n : ℕ) (xs : List X) → map (λ (x : ℕ × X). x.1) (enumerate_from n xs) ≡ xs
numbered_map n [] = refl
numbered_map {X} n (x ∷ xs) = ap (λ (l : List X). x ∷ l) (numbered_map (n + 1) xs)

-- and the numbers those that are counted
pub numbered_places : {X : Type 0} (n : ℕ) (xs : List X) → map (λ (x : ℕ × X). x.0) (enumerate_from n xs)
    ≡ range_with_len n (length xs)
numbered_places n [] = refl
numbered_places n (x ∷ xs) = ap (λ (l : List ℕ). n ∷ l) (numbered_places (n + 1) xs)

-- each number is below the end
pub numbered_below : {X : Type 0} (n : ℕ) (xs : List X) (x : ℕ × X) → IsIn x (enumerate_from n xs) → x.0 < n + length xs
numbered_below n [] x i = absurd i
numbered_below {X} n (z ∷ xs) x (inl e) = let f : n ≡ x.0 = ap (λ (p : ℕ × X). p.0) e in omega (arith, f)
numbered_below n (z ∷ xs) x (inr i) = omega (arith, numbered_below (n + 1) xs x i)

-- the first of them are those with a low place
pub in_front : {X : Type 0} (n k : ℕ) (xs : List X) (x : ℕ × X) → IsIn x (enumerate_from n (take k xs)) →
    IsIn x (enumerate_from n xs)
in_front n zero xs x i = absurd i
in_front n (suc k) [] x i = absurd i
in_front n (suc k) (z ∷ xs) x (inl e) = inl e
in_front n (suc k) (z ∷ xs) x (inr i) = inr (in_front (n + 1) k xs x i)

-- their places are low
pub front_below : {X : Type 0} (n k : ℕ) (xs : List X) (x : ℕ × X) → IsIn x (enumerate_from n (take k xs)) → x.0 < n + k
front_below n zero xs x i = absurd i
front_below n (suc k) [] x i = absurd i
front_below {X} n (suc k) (z ∷ xs) x (inl e) = let f : n ≡ x.0 = ap (λ (p : ℕ × X). p.0) e in omega (arith, f)
front_below n (suc k) (z ∷ xs) x (inr i) = omega (arith, front_below (n + 1) k xs x i)

-- and those of a low place are of the first
pub into_front : {X : Type 0} (n k : ℕ) (xs : List X) (x : ℕ × X) → IsIn x (enumerate_from n xs) → x.0 < n + k →
    IsIn x (enumerate_from n (take k xs))
into_front n zero xs x i l = let m = numbered_from n xs x i in absurd (omega (arith, l, m))
into_front n (suc k) [] x i l = i
into_front n (suc k) (z ∷ xs) x (inl e) l = inl e
into_front n (suc k) (z ∷ xs) x (inr i) l = inr (into_front (n + 1) k xs x i (omega (arith, l)))

-- what is made of numbers alone, and of pairs
pub map_numbers : {X Y : Type 0} (f : ℕ → Y) (g : ℕ × X → Y) (xs : List (ℕ × X)) →
    ((x : ℕ × X) → IsIn x xs → f x.0 ≡ g x) → map f (map (λ (x : ℕ × X). x.0) xs) ≡ map g xs
map_numbers f g [] h = refl
map_numbers {X} {Y} f g (x ∷ xs) h =
    ap (λ (y : Y). y ∷ map f (map (λ (x : ℕ × X). x.0) xs)) (h x (inl refl))
    ∙ ap (λ (l : List Y). g x ∷ l) (map_numbers f g xs (λ y i. h y (inr i)))

-- two members of a list are one, or the one stands before the other
pub related : {X : Type 0} (R : X → X → Type 0) (xs : List X) (x y : X) → EachLater R xs → IsIn x xs → IsIn y xs →
    (x ≡ y) ⊎ R x y ⊎ R y x
related R [] x y h i j = absurd i
related {X} R (z ∷ xs) x y h (inl e) (inl f) = inl (sym e ∙ f)
related {X} R (z ∷ xs) x y h (inl e) (inr j) = inr (inl (subst (λ (w : X). R w y) e (h.0 y j)))
related {X} R (z ∷ xs) x y h (inr i) (inl f) = inr (inr (subst (λ (w : X). R w x) f (h.0 x i)))
related R (z ∷ xs) x y h (inr i) (inr j) = related R xs x y h.1 i j

-- each element and each later one, by two relations
pub both_later : {X : Type 0} (R S : X → X → Type 0) (xs : List X) → EachLater R xs → EachLater S xs →
    EachLater (λ x y. R x y × S x y) xs
both_later R S [] h k = tt
both_later R S (x ∷ xs) h k = (λ y i. (h.0 y i, k.0 y i), both_later R S xs h.1 k.1)
